-- A node that was seen already, and the search from a node.
use Rattle.std.proofs.Common.{◌≡◌, ◌≢◌, ℕ, ◌+◌, ◌<◌, ⊎_elim, List, length, sym, subst, ◌∙◌, arith}
use Rattle.std.proofs.Common.{set}
use Rattle.epx_types.proofs.Common.{cases_eq, get_or-set_same}
use Rattle.epx_components.proofs.OpenLemmas.{IsSearch-enter}
use Rattle.epx_components.specs.inner.SearchInvariants.{IsSearch}
use Rattle.epx_components.specs.inner.SearchStates.{SearchState, visit_of}
use Rattle.epx_components.specs.inner.SearchSteps.{Arrives, after_enter}
use Rattle.epx_components.specs.declared.visit.Visit.{Visit}
use Rattle.epx_components.specs.declared.visit.Visit.TheVariants.{Closed, Open, Unseen}

pub IsSearch-seen : (edges : ℕ → List ℕ) (n k : ℕ) (s : SearchState) → IsSearch edges n k s
    → visit_of s.visits k ≢ Unseen → IsSearch edges n (k + 1) s
IsSearch-seen edges n k s w h = record {
  all_visits = w.all_visits;
  looks = w.looks;
  seen_below = λ j l. ⊎_elim (λ (e : j ≡ k). rw e h) (λ (ne : j ≢ k). w.seen_below j (omega arith))
      (cases_eq j k);
  row = w.row;
  starts = w.starts;
  begins = w.begins;
  grouped = w.grouped;
  path = w.path;
  waits = w.waits;
  leads = w.leads;
  reaches = w.reaches;
  finished = w.finished;
}

-- the search from a node, when nothing is open
pub IsSearch-root : (edges : ℕ → List ℕ) (n k : ℕ) (s new : SearchState) (x : Visit)
    → visit_of s.visits k ≡ x → IsSearch edges n k s → k < n → length s.starts ≡ 0
    → Arrives x k s new → IsSearch edges n (k + 1) new
IsSearch-root edges n k s new Unseen e w l none h =
    let P : SearchState → Type 0 = λ t. IsSearch edges n (k + 1) t in
    let none_open : (j p : ℕ) → visit_of s.visits j ≡ Open p
    → ⊥ = λ j p o. omega (arith, (w.row.placed j p o).0, w.grouped) in
    let m = length s.opened in
    let is : visit_of (set s.visits k (Open m)) k ≡ Open m =
    get_or-set_same s.visits k (Open m) Unseen (omega (arith, w.all_visits)) in
    subst P (sym h) (IsSearch-seen edges n k (after_enter s k)
    (IsSearch-enter edges n k s k w l e (λ j p o. absurd (none_open j p o)))
    (λ f. let wrong : Open m ≡ Unseen = sym is ∙ f in cc))
IsSearch-root edges n k s new (Open t) e w l none h =
    absurd (omega (arith, (w.row.placed k t e).0, w.grouped))
IsSearch-root edges n k s new (Closed c) e w l none h =
    let P : SearchState → Type 0 = λ t. IsSearch edges n (k + 1) t in
    subst P (sym h)
    (IsSearch-seen edges n k s w (λ f. let wrong : Closed c ≡ Unseen = sym e ∙ f in cc))
