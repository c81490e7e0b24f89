-- An entry is taken out of its list, and other rows still name the lines that they named.
use Rattle.std.proofs.Common.{◌≡◌, ◌≢◌, ◌≤◌, ◌<◌, ◌+◌, ℕ, zero, suc, List, [], ◌∷◌, ◌++◌, Vec, Some}
use Rattle.std.proofs.Common.{slice_get, slice_set, option_and_then, unwrap_or, map, take, refl}
use Rattle.std.proofs.Common.{sym, ap, subst, ◌∙◌, inl, inr, arith}
use Rattle.std.proofs.Math.Seq.{take-suc}
use Rattle.epx_types.proofs.Common.{All-contains, cases_eq, get_or_from_slice_get, slice_get_within}
use Rattle.epx_types.proofs.Common.{Global, Below, Instance, Placed, id_cmp-IsTotalOrder}
use Rattle.epx_types.proofs.Common.{AllPairs-slice_get, Contains-slice_get, AllPairs-from_IsRising}
use Rattle.epx_types.proofs.Common.{is_lt-irrefl}
use Rattle.std.specs.Vec.{with_item}
use Rattle.std.proofs.lemmas.Option.{none-some}
use Rattle.epx_types.proofs.lists.ListPositionLemmas.{slice_get-map}
use Rattle.epx_committed.specs.declared.rows.Row.{Row}
use Rattle.epx_committed.specs.LineRows.{line_at, instances_at, IsLineRow}
use Rattle.epx_committed.specs.LineRows.{AreLineRows, NamesItsLine}
use Rattle.epx_committed.proofs.LineRowLemmas.{Lists, line_at-from_list, line_at-in_list}
use Rattle.epx_committed.proofs.LineRowLemmas.{slice_get-instances_at}

set_here : {A : Type 0} (xs : List A) (k : ℕ) (x y : A) → slice_get xs k ≡ Some x
    → slice_get (slice_set xs k y) k ≡ Some y
set_here [] k x y h = absurd (none-some x h)
set_here (z ∷ xs) zero x y h = refl
set_here (z ∷ xs) (suc k) x y h = set_here xs k x y h

set_elsewhere : {A : Type 0} (xs : List A) (k j : ℕ) (y : A) → j ≢ k
    → slice_get (slice_set xs k y) j ≡ slice_get xs j
set_elsewhere [] k j y other = refl
set_elsewhere (z ∷ xs) zero zero y other = absurd (other refl)
set_elsewhere (z ∷ xs) zero (suc j) y other = refl
set_elsewhere (z ∷ xs) (suc k) zero y other = refl
set_elsewhere (z ∷ xs) (suc k) (suc j) y other = set_elsewhere xs k j y (λ e. other (ap suc e))

module _ (lists : Lists) (row : Row) (q new : Placed) (is : IsLineRow lists q row) where
  pub line_at-other_row : (l : Vec Placed Global) → slice_get lists row.list ≡ Some l
      → (r : Row) → r.id ≢ row.id → (p : Placed) → IsLineRow lists p r
      → line_at (slice_set lists row.list (with_item l row.at new)) r ≡ Some p
  line_at-other_row l here r other p there =
      let after = slice_set lists row.list (with_item l row.at new) in
      let from = line_at-in_list lists p r there.0 in
      elim (cases_eq r.list row.list) [
        | inl same ↦
            let one : Some from.0 ≡ Some l = sym from.1 ∙ ap (slice_get lists) same ∙ here in
            let in_list : slice_get l.items r.at ≡ Some p =
            subst (λ (m : Vec Placed Global). slice_get m.items r.at ≡ Some p)
            (ap (λ o. unwrap_or o l) one) from.2 in
            let there_too : slice_get l.items row.at ≡ Some q =
            sym (ap (option_and_then (λ (m : Vec Placed Global). slice_get m.items row.at)) here)
            ∙ is.0 in
            let apart : r.at ≢ row.at = λ e.
            let line : p ≡ q =
            ap (λ o. unwrap_or o q) (sym in_list ∙ ap (slice_get l.items) e ∙ there_too) in
            other (sym there.1 ∙ ap (λ (x : Placed). x.instance.id) line ∙ is.1) in
            line_at-from_list after (with_item l row.at new) p r
            (ap (slice_get after) same ∙ set_here lists row.list l (with_item l row.at new) here)
            (set_elsewhere l.items row.at r.at new apart ∙ in_list)
        | inr apart ↦
            line_at-from_list after from.0 p r
            (set_elsewhere lists row.list r.list (with_item l row.at new) apart ∙ from.1) from.2
      ]

-- the rows from an index on name the same lines in other lists
abbrev pub LaterLinesStay : Lists → Lists → List Row → ℕ → Type 0
LaterLinesStay old new rows from = (k : ℕ) → from ≤ k → (r : Row) → slice_get rows k ≡ Some r
    → (p : Placed) → line_at old r ≡ Some p → line_at new r ≡ Some p

-- ---- the entry of the row at an index is taken

module _ (lists now after : Lists) (rows : List Row) (are : AreLineRows lists rows)
    (k : ℕ) (row : Row) (at : slice_get rows k ≡ Some row)
    (stay : LaterLinesStay lists now rows k) where
  named_at : (j : ℕ) (r : Row) → slice_get rows j ≡ Some r → NamesItsLine lists r
  named_at j r there =
      All-contains (NamesItsLine lists) rows r are.named (Contains-slice_get rows j r there)

  pub NamesItsLine-now : NamesItsLine now row
  NamesItsLine-now = let p = named_at k row at in
      (p.0, (stay k (omega arith) row at p.0 p.1.0, p.1.1, p.1.2))

  -- rows have distinct Ids
  later_is_other : (j : ℕ) (r : Row) → k < j → slice_get rows j ≡ Some r → r.id ≢ row.id
  later_is_other j r later there same =
      let ids = map (λ (q : Row). q.id) rows in
      let below = AllPairs-slice_get Below ids (AllPairs-from_IsRising ids are.rising) k j
      row.id r.id later (slice_get-map (λ (q : Row). q.id) rows k row at)
      (slice_get-map (λ (q : Row). q.id) rows j r there) in
      is_lt-irrefl id_cmp-IsTotalOrder row.id (subst (Below row.id) same below)

  pub LaterLinesStay-step : ((r : Row) → r.id ≢ row.id → (p : Placed) → IsLineRow now p r
      → line_at after r ≡ Some p) → LaterLinesStay lists after rows (k + 1)
  LaterLinesStay-step others j later r there p line =
      let q = named_at j r there in
      let same : q.0 ≡ p = ap (λ o. unwrap_or o p) (sym q.1.0 ∙ line) in
      let is : IsLineRow lists p r = subst (λ l. IsLineRow lists l r) same q.1 in
      others r (later_is_other j r (omega (arith, later)) there) p
      (stay j (omega (arith, later)) r there p line, is.1, is.2)

  pub take-next_instance : (e : Instance) → e ≡ NamesItsLine-now.0.instance
      → take (k + 1) (instances_at lists rows) ≡ take k (instances_at lists rows) ++ e ∷ []
  unfolding named_at NamesItsLine-now
  take-next_instance e is =
      let p = named_at k row at in
      let there = slice_get-instances_at lists rows are.named k row p.0 at p.1.0 in
      let step : k + 1 ≡ suc k = omega arith in
      ap (λ n. take n (instances_at lists rows)) step
      ∙ take-suc (instances_at lists rows) k e
      (slice_get_within (instances_at lists rows) k p.0.instance there)
      ∙ ap (λ x. take k (instances_at lists rows) ++ x ∷ [])
      (get_or_from_slice_get (instances_at lists rows) k p.0.instance e there ∙ sym is)
