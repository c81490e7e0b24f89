use Rattle.std.proofs.Common.{[], List, Contains, sym, subst, take, get_or, arith}
use Rattle.epx_types.proofs.Common.{take_all, Contains-nil}
use Rattle.epx_types.specs.declared.id.Id.{Id}
use Rattle.epx_executor.specs.inner.Filings.{AreAppended, Filings}
use Rattle.epx_executor.proofs.FilingMapLemmas.{none-listed, Contains-from_get}
use Rattle.epx_executor.proofs.FilingMapLemmas.{Contains-from_listed, get-from_Contains}
use Rattle.epx_executor.proofs.FilingSearchLemmas.{AreAppended-filed, AreAppended-not_filed}
use Rattle.epx_executor.proofs.FilingSearchLemmas.{IsAmongFiled, AreAppended-listed}
use Rattle.epx_executor.proofs.FilingSearchLemmas.{AreAppended-none}
use Rattle.epx_executor.proofs.blockers.Blockers.push_filed.Goals as goal
use Rattle.epx_executor.proofs.blockers.Blockers.push_filed.Goals.{else-is_under}
use Rattle.epx_executor.proofs.blockers.Blockers.push_filed.Goals.{then-is_under+in_ok-push_unseen}

pub returns-in_default-clause-appended : goal.returns-in_default-clause-appended
returns-in_default-clause-appended c =
    let found = c.args.found.now.items in
    subst (λ (f : Filings). AreAppended (λ x. Contains f (x, c.args.under)) found found)
    c.self.view_is
    (AreAppended-none (λ x. Contains c.self.inside.parents.entries (x, c.args.under)) found
    (λ x h. absurd (none-listed c.self.inside.children x c.args.under c.in_default.ensures.value
    (c.self.invariant.2 x c.args.under h))))

pub loop-id-init : goal.loop-id-init
loop-id-init c = (
  c.requires,
  AreAppended-none (IsAmongFiled c.self.inside.parents.entries c.args.under [])
      c.args.found.now.items (λ x h. absurd (Contains-nil x h.0)),
)

pub loop-id-preserved : goal.loop-id-preserved
loop-id-preserved c =
    let m = c.self.inside.parents in
    let list = c.deref-id-items.result.now in
    let k = c.loop-id.id-index in
    let d : Id = record { replica = 0; number = 0 } in
    elim c.if-is_under.branch [
      | then-is_under+in_ok-push_unseen w ↦
          rw (w.seen-is, w.found-is) (
            w.in_ok-push_unseen.ensures.seen,
            AreAppended-filed m.entries c.args.under list k d c.loop-id-test.true
                c.args.found.now.items c.loop-id.found.items c.loop-id.invariant.1
                w.push_unseen.new.found.items
                (Contains-from_get m c.self.invariant.1 (get_or list k d) c.args.under
                (c.is_under.ensures.0 w.if-is_under.true))
                w.in_ok-push_unseen.ensures.appended,
          )
      | else-is_under w ↦
          rw (w.seen-is, w.found-is) (
            c.loop-id.invariant.0,
            AreAppended-not_filed m.entries c.args.under list k d c.loop-id-test.true
                c.args.found.now.items c.loop-id.found.items c.loop-id.invariant.1
                (λ h. cc (
                  c.is_under.ensures.1 (get-from_Contains m c.self.invariant.1
                      (get_or list k d) c.args.under h),
                  w.if-is_under.false,
                )),
          )
    ]

pub returns-clause-appended : goal.returns-clause-appended
returns-clause-appended c =
    let m = c.self.inside.parents in
    let list = c.deref-id-items.result.now in
    subst (λ (f : Filings). AreAppended (λ x. Contains f (x, c.args.under)) c.args.found.now.items
    c.loop-id.found.items) c.self.view_is
    (AreAppended-listed m.entries c.args.under list (take c.loop-id.id-index list)
    c.args.found.now.items c.loop-id.found.items
    (take_all c.loop-id.id-index list (omega (arith, c.loop-id-test.false)))
    (λ x h. subst (λ (xs : List Id). Contains xs x) (sym c.deref-id-items.ensures.value)
    (Contains-from_listed c.self.inside.children x c.args.under c.in-Some.list.now
    c.in-Some.ensures.value (c.self.invariant.2 x c.args.under h))) c.loop-id.invariant.1)
