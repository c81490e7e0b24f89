-- A remaining instance waits for the same instance in the remaining map as in the whole map, also
-- if the remaining map is that of other logs.
use Rattle.std.proofs.Common.{◌↔◌, List, [], ◌∷◌, Contains, refl, subst, inl, inr}
use Rattle.epx_types.proofs.Common.{Instance, IsCommitted, remaining, IsPath, Reaches, HasRemaining}
use Rattle.epx_types.proofs.Common.{IsReady, WaitsFor, Reaches-trans, Reaches-dependency}
use Rattle.epx_types.proofs.Common.{Contains-Id_cases, Contains-remaining_iff, DependsOn-remaining}
use Rattle.epx_types.proofs.Common.{remaining-from_map, is_among-excludes, Contains-left}
use Rattle.epx_types.specs.declared.id.Id.{Id}
use Rattle.epx_laws.proofs.RemainingReadinessLemmas.{Reaches-from_remaining}
use Rattle.epx_laws.proofs.SameGraphLemmas.{IsInGraphOf, WaitsFor-same}

module _ (done : List Id) (m : List Instance)
    (all_ready : (x : Id) → Contains done x → IsReady m x) where
  -- no done instance is on a path to a missing one
  path_remains : (x : Id) (via : List Id) (y : Id) → ¬ Contains done x → ¬ IsCommitted m y
      → IsPath m x via y → Reaches (remaining done m) x y
  path_remains x [] y left missing step =
      Reaches-dependency (remaining done m) x y
      ((DependsOn-remaining done m x y).1 (step, left, λ h. missing (all_ready y h).committed))
  path_remains x (z ∷ via) y left missing path =
      elim (Contains-Id_cases done z) [
        | inl is_done ↦ absurd (missing ((all_ready z is_done).complete y (inr (via, path.1))))
        | inr z_left ↦ Reaches-trans (remaining done m) x z y
            (Reaches-dependency (remaining done m) x z
            ((DependsOn-remaining done m x z).1 (path.0, left, z_left)))
            (path_remains z via y z_left missing path.1)
      ]

  Reaches-remains : (x y : Id) → ¬ Contains done x → ¬ IsCommitted m y → Reaches m x y
      → Reaches (remaining done m) x y
  Reaches-remains x y left missing (inl same) = inl same
  Reaches-remains x y left missing (inr path) = path_remains x path.0 y left missing path.1

  pub WaitsFor-remaining : (x y : Id) → ¬ Contains done x
      → WaitsFor (remaining done m) x y ↔ WaitsFor m x y
  WaitsFor-remaining x y left = (there, back) where
    there : WaitsFor (remaining done m) x y → WaitsFor m x y
    there w =
        let reached = Reaches-from_remaining done m x y left w.reached in
        record {
          committed = ((Contains-remaining_iff done m x).0 w.committed).0;
          reached = reached.0;
          missing = λ h. w.missing ((Contains-remaining_iff done m y).1 (h, reached.1));
          least = λ z on lacks. w.least z (Reaches-remains x z left lacks on)
              (λ h. lacks ((Contains-remaining_iff done m z).0 h).0);
        }

    back : WaitsFor m x y → WaitsFor (remaining done m) x y
    back w = record {
      committed = (Contains-remaining_iff done m x).1 (w.committed, left);
      reached = Reaches-remains x y left w.missing w.reached;
      missing = λ h. w.missing ((Contains-remaining_iff done m y).0 h).0;
      least = λ z on lacks.
          let reached = Reaches-from_remaining done m x z left on in
          w.least z reached.0
          (λ h. lacks ((Contains-remaining_iff done m z).1 (h, reached.1)));
    }

-- ---- the remaining map of other logs

-- if the other map has all that is not done, it remains there too
IsInGraphOf-remaining : (m other : List Instance) (done : List Id) → HasRemaining other done m
    → IsInGraphOf (remaining done other) (remaining done m)
IsInGraphOf-remaining m other done has e h =
    let d = remaining-from_map done m e h in
    let left = is_among-excludes done d.0.id d.2 in (
      e,
      subst (Contains (remaining done other)) d.3
          (Contains-left done other d.0 (has d.0 d.1 left) left),
      refl,
      refl,
      refl,
    )

pub WaitsFor-resumed : (m other : List Instance) (done : List Id)
    → ((x : Id) → Contains done x → IsReady m x) → HasRemaining m done other
    → HasRemaining other done m → (x y : Id) → ¬ Contains done x
    → WaitsFor (remaining done other) x y ↔ WaitsFor m x y
WaitsFor-resumed m other done ready has all x y left =
    let there = IsInGraphOf-remaining m other done all in
    let back = IsInGraphOf-remaining other m done has in
    let same = WaitsFor-remaining done m ready x y left in (
      λ w. same.0 (WaitsFor-same (remaining done other) (remaining done m) back there x y w),
      λ w. WaitsFor-same (remaining done m) (remaining done other) there back x y (same.1 w),
    )
