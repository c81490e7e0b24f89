-- Whether instances wait, by their list.
use Rattle.std.proofs.Common.{◌≡◌, ◌∙◌, ◌↔◌, ◌==◌, Bool, true, false, not, List, [], ◌∷◌, ap, sym}
use Rattle.std.proofs.Common.{refl, length, arith, eqb-true, true≢false}
use Rattle.epx_types.proofs.Common.{Instance, Waiting, IsWaitingList, Contains-head, Contains-nil}
use Rattle.epx_tool.specs.Findings.{SomeWaits}

pub SomeWaits-decides : (m : List Instance) (waiting : List Waiting) (empty : Bool)
    → IsWaitingList m waiting → empty ≡ (length waiting == 0) → (not empty ≡ true) ↔ SomeWaits m
SomeWaits-decides m [] empty listed is = (
  λ e. absurd (true≢false (sym e ∙ ap not is)),
  λ w. absurd (Contains-nil _ (listed.whole w.0 w.1 w.2)),
)
SomeWaits-decides m (w ∷ waiting) empty listed is =
    (λ e. (w.id, w.missing, listed.waits w (Contains-head w waiting)), λ some. go empty is)
  where
    go : (b : Bool) → b ≡ (length (w ∷ waiting) == 0) → not b ≡ true
    go true is = let none = eqb-true (length (w ∷ waiting)) 0 (sym is) in absurd (omega arith)
    go false is = refl
