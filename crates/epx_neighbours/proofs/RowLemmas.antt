-- The rows of the neighbours without a mark, one by one.
use Rattle.std.proofs.Common.{◌≡◌, ◌↔◌, inl, inr, ℕ, ◌+◌, true, false, Bool, List, [], ◌∷◌}
use Rattle.std.proofs.Common.{◌++◌, get_or, Contains, Some, slice_get, sym}
use Rattle.std.proofs.Common.{ap, subst, ◌∙◌, arith}
use Rattle.epx_types.specs.declared.id.Id.{Id}
use Rattle.epx_types.proofs.Common.{cases_lt, false≢true, Contains-push, Contains-push_cases}
use Rattle.epx_types.proofs.Common.{Contains-append_left}
use Rattle.epx_neighbours.specs.declared.neighbours.Neighbours.{Neighbours}
use Rattle.epx_neighbours.specs.declared.uncovered_row.UncoveredRow.{UncoveredRow}
use Rattle.epx_neighbours.specs.inner.UncoveredRows.{IsUncoveredRowOf, IsUnmarked}

module _ (ids : List Id) (found : List Neighbours) (marks : List Bool) where
  abbrev pub AreUnmarkedUpTo : ℕ → List UncoveredRow → Type 0
  AreUnmarkedUpTo n rows = (r : UncoveredRow) → Contains rows r ↔ IsUnmarked ids found marks n r

  -- neighbours have one row
  row_is_unique : (x y : Neighbours) (r s : UncoveredRow) → x ≡ y → IsUncoveredRowOf ids x r
      → IsUncoveredRowOf ids y s → r ≡ s
  row_is_unique x y r s same p q =
      let before : Some r.before ≡ Some s.before =
      sym p.before ∙ ap (λ (n : Neighbours). slice_get ids n.before) same ∙ q.before in
      let after : Some r.after ≡ Some s.after =
      sym p.after ∙ ap (λ (n : Neighbours). slice_get ids n.after) same ∙ q.after in
      let key : r.key ≡ s.key = sym p.key ∙ ap (λ (n : Neighbours). n.key) same ∙ q.key in
      let first : r.before ≡ s.before = cc before in
      let second : r.after ≡ s.after = cc after in
      λ i. record { before = first i; after = second i; key = key i }

  pub AreUnmarkedUpTo-push : (n : ℕ) (x : Neighbours) (r : UncoveredRow) (rows : List UncoveredRow)
      → slice_get found n ≡ Some x → get_or marks n false ≡ false → IsUncoveredRowOf ids x r
      → AreUnmarkedUpTo n rows → AreUnmarkedUpTo (n + 1) (rows ++ r ∷ [])
  AreUnmarkedUpTo-push n x r rows at none row up s = (
    λ h. elim (Contains-push_cases rows r s h) [
      | inl was ↦ let u = (up s).0 was in (u.0, u.1, omega (arith, u.2), u.3, u.4, u.5)
      | inr same ↦ (n, x, omega arith, at, none, subst (IsUncoveredRowOf ids x) same row)
    ],
    λ (j, y, l, at_j, plain, other). elim (cases_lt j n) [
      | inl past ↦ Contains-append_left rows (r ∷ []) s ((up s).1 (j, y, past, at_j, plain, other))
      | inr here ↦
          let same : j ≡ n = omega (arith, here, l) in
          let one : Some y ≡ Some x = sym at_j ∙ ap (slice_get found) same ∙ at in
          let is : x ≡ y = cc one in
          subst (Contains (rows ++ r ∷ [])) (row_is_unique x y r s is row other)
          (Contains-push rows r)
    ],
  )

  pub AreUnmarkedUpTo-skip : (n : ℕ) (rows : List UncoveredRow) → get_or marks n false ≡ true
      → AreUnmarkedUpTo n rows → AreUnmarkedUpTo (n + 1) rows
  AreUnmarkedUpTo-skip n rows marked up s = (
    λ h. let u = (up s).0 h in (u.0, u.1, omega (arith, u.2), u.3, u.4, u.5),
    λ (j, y, l, at_j, plain, other). elim (cases_lt j n) [
      | inl past ↦ (up s).1 (j, y, past, at_j, plain, other)
      | inr here ↦
          let same : j ≡ n = omega (arith, here, l) in
          absurd (false≢true (sym plain ∙ ap (λ k. get_or marks k false) same ∙ marked))
    ],
  )
