use Rattle.std.proofs.Common.{◌≡◌, ◌∙◌, ◌+◌, ◌++◌, ◌∷◌, [], ℕ, Option, Some, None}
use Rattle.std.proofs.Common.{get_or, subst, sym, take, arith}
use Rattle.epx_types.proofs.Common.{take_more}
use Rattle.epx_linear.specs.inner.MarkedCalls.{AreMarked}
use Rattle.epx_linear.proofs.LostCallLemmas.{AreMarked-nil, AreMarked-skip, AreMarked-push}
use Rattle.epx_linear.proofs.lost_calls.are_executed.Goals.{in-Some+then-at-calls}
use Rattle.epx_linear.proofs.lost_calls.are_executed.Goals.{in-Some+else-at-calls, in_default}
use Rattle.epx_linear.proofs.lost_calls.are_executed.Goals as goal

pub loop-place-init : goal.loop-place-init
loop-place-init c =
    subst (AreMarked c.args.calls [])
    (sym (c.in_ok-executed.ensures.items_if_clones_equal (λ y same. same)))
    (AreMarked-nil c.args.calls)

pub loop-place-preserved : goal.loop-place-preserved
loop-place-preserved c =
    let n = c.args.calls in
    let places = c.args.places.now in
    let i = c.loop-place.place-index in
    let marks = c.loop-place.executed.items in
    let before = take i places in
    let place : Option ℕ = get_or places i None in
    let is = c.loop-place.invariant in
    let longer : take (i + 1) places ≡ before ++ place ∷ [] =
    take_more places i None c.loop-place-test.true in
    let now : AreMarked n (before ++ place ∷ []) c.match-place.executed.items =
    elim c.match-place.branch [
      | in-Some+then-at-calls w ↦
          subst (λ v. AreMarked n (before ++ place ∷ []) v.items) (sym w.executed-is)
          (AreMarked-push n before place marks is w.in-Some.at w.in-Some.is w.if-at-calls.true)
      | in-Some+else-at-calls w ↦
          subst (λ v. AreMarked n (before ++ place ∷ []) v.items) (sym w.executed-is)
          (AreMarked-skip n before place marks is (λ j low e.
          let both : Some w.in-Some.at ≡ Some j = sym w.in-Some.is ∙ e in
          let same : w.in-Some.at ≡ j = cc both in
          omega (arith, w.if-at-calls.false, low, same)))
      | in_default w ↦
          subst (λ v. AreMarked n (before ++ place ∷ []) v.items) (sym w.executed-is)
          (AreMarked-skip n before place marks is (λ j low e. w.in_default.not-Some j e))
    ] in
    subst (λ l. AreMarked n l c.match-place.executed.items) (sym longer) now
