-- What the box of a committed instance shows.
use Rattle.std.specs.Prelude.{◌≡◌, ◌≢◌, ◌↔◌, List, Option, Some, None, Contains, IsTrue}
use Rattle.epx_types.specs.declared.id.Id.{Id}
use Rattle.epx_types.specs.Components.{InOneComponent, IsLeader}
use Rattle.epx_types.specs.Depth.{IsDepth}
use Rattle.epx_types.specs.Instances.{Instance}
use Rattle.epx_types.specs.Readiness.{IsReady}
use Rattle.epx_picture.specs.declared.node_box.NodeBox.{NodeBox}

-- the cluster of an instance has the name of its component's leader; an instance that is alone in
-- its component has no cluster
abbrev pub IsCluster : List Instance → Id → Option Id → Type 0
IsCluster m x None = (y : Id) → InOneComponent m x y → y ≡ x
IsCluster m x (Some leader) = IsLeader m x leader × ((y : Id) × InOneComponent m x y × (y ≢ x))

-- the box shows the instance's sequence number, depth and cluster, and whether it waits
pub record IsBoxOf (m : List Instance) (d : NodeBox) : Type 0 where
  pub seq : (e : Instance) → Contains m e → e.id ≡ d.id → e.seq ≡ d.seq
  pub depth : IsDepth m d.id d.depth
  pub cluster : IsCluster m d.id d.cluster
  pub waits : IsTrue d.waits ↔ ¬ IsReady m d.id
