-- The picture of what lies around an instance.
use Rattle.std.specs.Prelude.{◌≡◌, ◌↔◌, ℕ, Bool, List, map, filter, Contains}
use Rattle.epx_types.specs.declared.id.Id.{Id}
use Rattle.epx_types.specs.Ids.{IsRising}
use Rattle.epx_types.specs.CommittedMap.{ids_of}
use Rattle.epx_types.specs.Instances.{Instance}
use Rattle.epx_graph.specs.GraphOf.{IsMissing}
use Rattle.epx_picture.specs.declared.node_box.NodeBox.{NodeBox}
use Rattle.epx_picture.specs.Neighbourhoods.{IsWithinSteps, IsWithinTest}
use Rattle.epx_picture.specs.NodeBoxes.{IsBoxOf}
use Rattle.epx_picture.specs.PictureText.{picture_text}

-- the instance with those of its dependencies that pass the test
abbrev pub with_deps_near : (Id → Bool) → Instance → Instance
with_deps_near near e = record e { deps = filter near e.deps }

-- the instances that pass the test, each with those of its dependencies that pass it
abbrev pub part_near : (Id → Bool) → List Instance → List Instance
part_near near m = map (with_deps_near near) (filter (λ e. near e.id) m)

-- the text is a graph in DOT of what is within n steps of x: a box for each committed and each
-- missing instance there, as in the picture of the whole map, and an arrow for each dependency of
-- which both ends are there
pub record IsPictureAround (m : List Instance) (x : Id) (n : ℕ) (text : List ℕ) : Type 0 where
  pub near : Id → Bool
  pub node_boxes : List NodeBox
  pub missing : List Id
  pub exact : IsWithinTest m n x near
  pub named : map (λ d. d.id) node_boxes ≡ ids_of (part_near near m)
  pub shown : (d : NodeBox) → Contains node_boxes d → IsBoxOf m d
  pub missing_rise : IsRising missing
  pub lacking : (y : Id) → Contains missing y ↔ (IsMissing m y × IsWithinSteps m n x y)
  pub printed : text ≡ picture_text (part_near near m) node_boxes missing
