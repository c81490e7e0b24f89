use Rattle.std.proofs.Common.{◌+◌, ◌-◌, sym, subst, arith, length, Option}
use Rattle.std.specs.Option.{MatchOption}
use Rattle.epx_types.specs.declared.id.Id.{Id}
use Rattle.epx_executor.specs.inner.Filings.{Filings, IsBlockedBy, IsFiled}
use Rattle.epx_executor.proofs.FilingLemmas.{IsOnWay-first, IsOnWay-next}
use Rattle.epx_executor.proofs.FilingMapLemmas.{Contains-from_get, not_filed-from_get}
use Rattle.epx_executor.proofs.blockers.Blockers.blocker.Goals as goal

pub returns-in_err-under : goal.returns-in_err-under
returns-in_err-under c =
    let m = c.self.inside.parents in
    let none : ¬ IsFiled c.args.self.now c.args.id =
    subst (λ (f : Filings). ¬ IsFiled f c.args.id) c.self.view_is
    (not_filed-from_get m c.self.invariant.1 c.args.id c.in_err-under.ensures.value) in
    subst (λ (o : Option Id). MatchOption o (¬ IsFiled c.args.self.now c.args.id)
    (IsBlockedBy c.args.self.now c.args.id)) (sym c.from_residual.ensures) none

pub loop-init : goal.loop-init
loop-init c =
    let m = c.self.inside.parents in
    IsOnWay-first m.entries c.self.invariant.0 c.args.id c.in_ok-under.field-0.now
    (length m.entries - 0) (omega arith)
    (Contains-from_get m c.self.invariant.1 c.args.id c.in_ok-under.field-0.now
    (sym c.in_ok-under.ensures.value))

pub returns-in-None : goal.returns-in-None
returns-in-None c =
    let m = c.self.inside.parents in
    subst (λ (f : Filings). IsBlockedBy f c.args.id c.loop.under) c.self.view_is (record {
      behind = c.loop.invariant.behind;
      last = not_filed-from_get m c.self.invariant.1 c.loop.under c.in-None.ensures.value;
    })

pub loop-preserved : goal.loop-preserved
loop-preserved c =
    let m = c.self.inside.parents in
    IsOnWay-next m.entries c.self.invariant.0 c.args.id c.loop.under c.in-Some.next.now
    (length m.entries - c.loop.counter) (length m.entries - (c.loop.counter + 1))
    (omega (arith, c.loop-test.true, c.len-end.ensures.len)) c.loop.invariant
    (Contains-from_get m c.self.invariant.1 c.loop.under c.in-Some.next.now
    (sym c.in-Some.ensures.value))

pub returns : goal.returns
returns c =
    absurd (omega (arith, c.loop.invariant.few, c.loop-test.false, c.len-end.ensures.len))
