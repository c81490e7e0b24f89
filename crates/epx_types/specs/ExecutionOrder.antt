-- The order in which the ready instances are executed.
use Rattle.std.specs.Prelude.{◌≡◌, ℕ, true, List, map, Contains, count_by, AllPairs}
use Rattle.std.specs.Ordering.{nat_cmp, ordering_then, is_lt, is_eq}
use Rattle.std.specs.declared.cmp.Ordering.{Ordering}
use Rattle.epx_types.specs.declared.id.Id.{Id}
use Rattle.epx_types.specs.Ids.{id_cmp}
use Rattle.epx_types.specs.Instances.{Instance}
use Rattle.epx_types.specs.Readiness.{IsReady}
use Rattle.epx_types.specs.Components.{IsLeader}
use Rattle.epx_types.specs.Depth.{IsDepth}

-- the Id of an instance, with what decides its position in the execution order: its sequence
-- number, its leader and its depth
pub record Ranked : Type 0 where
  pub id : Id
  pub seq : ℕ
  pub leader : Id
  pub depth : ℕ

-- by depth, leader, sequence number, replica and number
abbrev pub rank_cmp : Ranked → Ranked → Ordering
rank_cmp a b = ordering_then (nat_cmp a.depth b.depth)
    (ordering_then (id_cmp a.leader b.leader)
    (ordering_then (nat_cmp a.seq b.seq) (id_cmp a.id b.id)))

-- a comes before b in the execution order
abbrev pub RanksBelow : Ranked → Ranked → Type 0
RanksBelow a b = is_lt (rank_cmp a b) ≡ true

-- the instance is ready in the map, and has this sequence number, leader and depth there
pub record IsRanked (m : List Instance) (r : Ranked) : Type 0 where
  pub ready : IsReady m r.id
  pub seq : (e : Instance) → Contains m e → e.id ≡ r.id → e.seq ≡ r.seq
  pub leader : IsLeader m r.id r.leader
  pub depth : IsDepth m r.id r.depth

-- the Ids of ranked instances, in their order
abbrev pub ranked_ids : List Ranked → List Id
ranked_ids order = map (λ r. r.id) order

-- `order` has each ready instance of the map once, with its sequence number, leader and depth
-- there, in the order of `rank_cmp`
pub record IsExecutionOrder (m : List Instance) (order : List Ranked) : Type 0 where
  pub ranked : (r : Ranked) → Contains order r → IsRanked m r
  pub whole : (x : Id) → IsReady m x → Contains (ranked_ids order) x
  pub rising : AllPairs RanksBelow order

-- how many instances of the order are their own leaders; in an execution order this is the number
-- of components
abbrev pub component_count : List Ranked → ℕ
component_count order = count_by (λ r. is_eq (id_cmp r.id r.leader)) order
