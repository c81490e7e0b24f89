-- What follows from the last elements of the path and of the starts.
use Rattle.std.proofs.Common.{◌≡◌, ℕ, ◌-◌, ◌<◌, ◌≤◌, ⊎_elim, List, length, get_or, sym, ◌∙◌, ap}
use Rattle.std.proofs.Common.{arith}
use Rattle.epx_types.proofs.Common.{cases_lt}
use Rattle.epx_components.proofs.VisitLemmas.{visit_of-within}
use Rattle.epx_components.specs.inner.SearchInvariants.{IsSearch}
use Rattle.epx_components.specs.inner.SearchStates.{SearchState, visit_of}
use Rattle.epx_components.specs.inner.SearchSteps.{IsTopNode}
use Rattle.epx_components.specs.inner.Starts.{AreRisingBelow}
use Rattle.epx_components.specs.declared.visit.Visit.TheVariants.{Open, Unseen}

pub AreRisingBelow-last : (xs : List ℕ) (n : ℕ) → AreRisingBelow xs n → (i : ℕ) → i < length xs
    → get_or xs i 0 ≤ get_or xs (length xs - 1) 0
AreRisingBelow-last xs n h i l = ⊎_elim
    (λ (lt : i < length xs - 1). omega (arith, h.rises i (length xs - 1) lt (omega arith)))
    (λ (le : length xs - 1 ≤ i). let e : i ≡ length xs - 1 = omega arith in
    omega (arith, ap (λ x. get_or xs x 0) e))
    (cases_lt i (length xs - 1))

pub visit_of-top_node : (edges : ℕ → List ℕ) (n seen : ℕ) (s : SearchState) (k : ℕ)
    → IsSearch edges n seen s → (t : IsTopNode s k) → visit_of s.visits k ≡ Open t.position
visit_of-top_node edges n seen s k w t =
    ap (visit_of s.visits) (sym t.node) ∙ w.row.is_open_at t.position
    (omega (arith, t.some, t.ends, w.path.below (length s.path - 1) (omega (arith, t.some))))

pub visit_of-open_within : (edges : ℕ → List ℕ) (n seen : ℕ) (s : SearchState) (k p : ℕ)
    → IsSearch edges n seen s → visit_of s.visits k ≡ Open p → k < n
visit_of-open_within edges n seen s k p w h =
    omega (
      arith,
      w.all_visits,
      visit_of-within s.visits k
          (λ e. let wrong : Open p ≡ Unseen = sym h ∙ e in cc),
    )
