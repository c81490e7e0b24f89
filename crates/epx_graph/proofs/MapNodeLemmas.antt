-- The nodes of a map, and the rows of their edges.
use Rattle.std.proofs.Common.{◌≡◌, inl, inr, ℕ, ◌+◌, ◌<◌, ◌≤◌, List, [], ◌∷◌, ◌++◌, length, take}
use Rattle.std.proofs.Common.{Some, slice_get, Contains, sym, ap, subst, ◌∙◌, arith}
use Rattle.epx_types.proofs.Common.{cases_lt, length-take, length-map, get_or_append_left}
use Rattle.epx_types.proofs.Common.{get_or_push, length_push, take_at, drop_at, IsRising, Instance}
use Rattle.epx_types.proofs.Common.{ids_of, IsCommitted, Contains-slice_get}
use Rattle.epx_types.specs.declared.id.Id.{Id}
use Rattle.epx_rows.specs.between.Rows.{row_of}
use Rattle.epx_graph.specs.inner.Nodes.{AreMissingIds, AreNodesOf, ArePositionsOf, AreRowsOf}
use Rattle.epx_graph.proofs.RisingPositionLemmas.{slice_get-take}

-- ---- nodes

-- the committed Ids, and then the missing ones
pub AreNodesOf-append : (m : List Instance) (missing : List Id) → IsRising (ids_of m)
    → AreMissingIds m missing → AreNodesOf m (ids_of m ++ missing)
AreNodesOf-append m missing rising are =
    let long : length (ids_of m) ≡ length m = length-map m (λ (e : Instance). e.id) in
    record {
      committed_rise = rising;
      committed = take_at (ids_of m) missing (length m) long;
      missing = subst (AreMissingIds m) (sym (drop_at (ids_of m) missing (length m) long)) are;
    }

module _ (m : List Instance) (ids : List Id) (is : AreNodesOf m ids) where
  -- the nodes begin with the committed ones
  pub length-ids_at_least : length m ≤ length ids
  length-ids_at_least =
      let long : length (take (length m) ids) ≡ length m =
      ap length is.committed ∙ length-map m (λ (e : Instance). e.id) in
      omega (arith, length-take (length m) ids)

  -- and an Id that is not committed comes after them
  pub slice_get-missing_above : (x : Id) (j : ℕ) → ¬ IsCommitted m x → slice_get ids j ≡ Some x
      → length m ≤ j
  slice_get-missing_above x j missing at =
      elim (cases_lt j (length m)) [
        | inl l ↦ absurd
            (missing (subst (λ (l : List Id). Contains l x) is.committed
            (Contains-slice_get (take (length m) ids) j x
            (slice_get-take ids (length m) j x l at))))
        | inr past ↦ past
      ]

-- ---- rows

pub AreRowsOf-push : (m : List Instance) (ids : List Id) (rows : List (List ℕ)) (n : ℕ)
    (e : Instance)
    (row : List ℕ) → slice_get m n ≡ Some e → ArePositionsOf ids e.deps row
    → AreRowsOf m ids rows n → AreRowsOf m ids (rows ++ row ∷ []) (n + 1)
AreRowsOf-push m ids rows n e row at is before =
    (length_push rows row ∙ ap (λ k. k + 1) before.0, each) where
      each : (k : ℕ) (d : Instance) → k < n + 1 → slice_get m k ≡ Some d
          → ArePositionsOf ids d.deps (row_of (rows ++ row ∷ []) k)
      each k d l there =
          elim (cases_lt k n) [
            | inl lower ↦ subst (ArePositionsOf ids d.deps)
                (sym (get_or_append_left rows (row ∷ []) [] k (omega (arith, before.0))))
                (before.1 k d lower there)
            | inr not_lower ↦
                let same : k ≡ n = omega arith in
                let one : Some d ≡ Some e = sym there ∙ ap (slice_get m) same ∙ at in
                let of : d ≡ e = cc one in
                let last : row_of (rows ++ row ∷ []) k ≡ row =
                get_or_push rows row [] k (omega (arith, before.0)) in
                subst (ArePositionsOf ids d.deps) (sym last)
                (subst (λ (i : Instance). ArePositionsOf ids i.deps row) (sym of) is)
          ]
