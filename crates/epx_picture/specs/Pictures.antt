-- The picture of a committed map.
use Rattle.std.specs.Prelude.{◌≡◌, ◌↔◌, ℕ, List, map, Contains}
use Rattle.epx_types.specs.declared.id.Id.{Id}
use Rattle.epx_types.specs.Ids.{IsRising}
use Rattle.epx_types.specs.CommittedMap.{ids_of}
use Rattle.epx_types.specs.Instances.{Instance}
use Rattle.epx_graph.specs.GraphOf.{IsMissing}
use Rattle.epx_picture.specs.declared.node_box.NodeBox.{NodeBox}
use Rattle.epx_picture.specs.NodeBoxes.{IsBoxOf}
use Rattle.epx_picture.specs.PictureText.{picture_text}

-- the text is a graph in DOT, with a box for each committed instance, in the order of the map, one
-- for each missing instance, by rising Id, and an arrow for each dependency
pub record IsPicture (m : List Instance) (text : List ℕ) : Type 0 where
  pub node_boxes : List NodeBox
  pub missing : List Id
  pub named : map (λ d. d.id) node_boxes ≡ ids_of m
  pub shown : (d : NodeBox) → Contains node_boxes d → IsBoxOf m d
  pub missing_rise : IsRising missing
  pub lacking : (x : Id) → Contains missing x ↔ IsMissing m x
  pub printed : text ≡ picture_text m node_boxes missing
