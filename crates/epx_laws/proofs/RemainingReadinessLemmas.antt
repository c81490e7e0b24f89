-- A remaining instance is ready in the remaining map exactly if it is ready in the whole map.
use Rattle.std.proofs.Common.{◌↔◌, List, [], ◌∷◌, Contains, subst, inl, inr}
use Rattle.epx_types.proofs.Common.{Instance, IsCommitted, remaining, IsPath, Reaches, IsReady}
use Rattle.epx_types.proofs.Common.{Contains-remaining_iff, DependsOn-remaining, is_among-cases}
use Rattle.epx_types.proofs.Common.{Reaches-trans, Reaches-dependency}
use Rattle.epx_types.specs.declared.id.Id.{Id}

module _ (done : List Id) (m : List Instance) where
  -- ---- a remaining instance reaches what it reached before and is not done

  remaining_path : (x : Id) (via : List Id) (y : Id) → IsPath (remaining done m) x via y
      → Reaches m x y × (¬ Contains done y)
  remaining_path x [] y path =
      let d = (DependsOn-remaining done m x y).0 path in
      (Reaches-dependency m x y d.0, d.2)
  remaining_path x (z ∷ via) y path =
      let d = (DependsOn-remaining done m x z).0 path.0 in
      let rest = remaining_path z via y path.1 in
      (Reaches-trans m x z y (Reaches-dependency m x z d.0) rest.0, rest.1)

  pub Reaches-from_remaining : (x y : Id) → ¬ Contains done x → Reaches (remaining done m) x y
      → Reaches m x y × (¬ Contains done y)
  Reaches-from_remaining x y left (inl same) =
      (inl same, subst (λ (z : Id). ¬ Contains done z) same left)
  Reaches-from_remaining x y left (inr path) = remaining_path x path.0 y path.1

  -- ---- readiness in the remaining map and in the whole map

  pub IsReady-remaining : (x : Id) → ¬ Contains done x → IsReady m x → IsReady (remaining done m) x
  IsReady-remaining x left ready = record {
    committed = (Contains-remaining_iff done m x).1 (ready.committed, left);
    complete = λ y there.
        let reached = Reaches-from_remaining x y left there in
        (Contains-remaining_iff done m y).1 (ready.complete y reached.0, reached.1);
  }

  module _ (all_ready : (x : Id) → Contains done x → IsReady m x) where
    -- a path from an instance that is ready in the remaining map ends at a committed instance,
    -- also if it passes a done one
    path_complete : (x : Id) (via : List Id) (y : Id) → IsReady (remaining done m) x
        → IsPath m x via y → IsCommitted m y
    path_complete x [] y ready step =
        elim (is_among-cases done y) [
          | inl found ↦ (all_ready y found.1).committed
          | inr other ↦
              let left = ((Contains-remaining_iff done m x).0 ready.committed).1 in
              let d = (DependsOn-remaining done m x y).1 (step, left, other.1) in
              ((Contains-remaining_iff done m y).0
              (ready.complete y (Reaches-dependency (remaining done m) x y d))).0
        ]
    path_complete x (z ∷ via) y ready path =
        elim (is_among-cases done z) [
          | inl found ↦ (all_ready z found.1).complete y (inr (via, path.1))
          | inr other ↦
              let left = ((Contains-remaining_iff done m x).0 ready.committed).1 in
              let d = (DependsOn-remaining done m x z).1 (path.0, left, other.1) in
              let there = Reaches-dependency (remaining done m) x z d in
              path_complete z via y
              (record {
                committed = ready.complete z there;
                complete = λ w on. ready.complete w
                    (Reaches-trans (remaining done m) x z w there on);
              }) path.1
        ]

    pub IsReady-from_remaining : (x : Id) → IsReady (remaining done m) x → IsReady m x
    IsReady-from_remaining x ready =
        let committed = ((Contains-remaining_iff done m x).0 ready.committed).0 in
        record { committed = committed; complete = complete committed } where
          complete : IsCommitted m x → (y : Id) → Reaches m x y → IsCommitted m y
          complete here y (inl same) = subst (IsCommitted m) same here
          complete here y (inr path) = path_complete x path.0 y ready path.1

-- if all done instances are ready, an instance that is not done is ready in the remaining map
-- exactly if it is ready in the whole map
pub IsReady-remaining_iff : (done : List Id) (m : List Instance)
    → ((x : Id) → Contains done x → IsReady m x) → (x : Id) → ¬ Contains done x
    → IsReady (remaining done m) x ↔ IsReady m x
IsReady-remaining_iff done m all_ready x left =
    (IsReady-from_remaining done m all_ready x, IsReady-remaining done m x left)
