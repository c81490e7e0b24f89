use Rattle.std.proofs.Common.{[], Contains, subst, take, arith}
use Rattle.epx_types.proofs.Common.{take_all}
use Rattle.epx_types.specs.declared.id.Id.{Id}
use Rattle.epx_executor.specs.inner.Filings.{AreAppended}
use Rattle.epx_executor.proofs.FilingSearchLemmas.{AreAppended-under, IsSearched-first}
use Rattle.epx_executor.proofs.FilingSearchLemmas.{IsSearched-more, length-le_from_found}
use Rattle.epx_executor.proofs.FilingSearchLemmas.{Contains-behind_found}
use Rattle.epx_executor.proofs.blockers.Blockers.behind.Goals as goal

pub loop-id-preserved : goal.loop-id-preserved
loop-id-preserved c =
    let d : Id = record { replica = 0; number = 0 } in (
      c.in_ok-push_filed.ensures.seen,
      AreAppended-under c.args.self.now c.args.ids.now c.loop-id.id-index d c.loop-id-test.true []
          c.loop-id.found.items c.push_filed.new.found.items c.loop-id.invariant.1
          c.in_ok-push_filed.ensures.appended,
    )

pub loop-next-init : goal.loop-next-init
loop-next-init c = (
  c.loop-id.invariant.0,
  IsSearched-first c.args.self.now c.args.ids.now (take c.loop-id.id-index c.args.ids.now)
      c.loop-id.found.items (take_all c.loop-id.id-index c.args.ids.now c.loop-id-test.false)
      c.loop-id.invariant.1,
)

pub loop-next-smaller : goal.loop-next-smaller
loop-next-smaller c =
    let few = length-le_from_found c.args.self.now c.loop-next.seen c.loop-next.found.items
    c.loop-next.invariant.0 c.loop-next.invariant.1.filed in
    omega (arith, few, c.loop-next-test.true, c.len.ensures, c.loop-next.found.ok.0)

pub loop-next-preserved : goal.loop-next-preserved
loop-next-preserved c =
    let found = c.loop-next.found.items in
    let new = c.push_filed-in-loop-next.new.found.items in
    let id = c.index-id.result.now in (
      c.in_ok-push_filed-2.ensures.seen,
      IsSearched-more c.args.self.now c.args.ids.now found new c.loop-next.next id
          (omega (arith, c.loop-next-test.true, c.len.ensures, c.loop-next.found.ok.0))
          c.loop-next.invariant.1
          (subst (λ (y : Id). AreAppended (λ x. Contains c.args.self.now (x, y)) found new)
          c.index-id.ensures c.in_ok-push_filed-2.ensures.appended),
    )

pub returns-clause-whole : goal.returns-clause-whole
returns-clause-whole c =
    Contains-behind_found c.args.self.now c.args.ids.now c.loop-next.found.items c.loop-next.next
    (omega (arith, c.loop-next-test.false, c.len.ensures, c.loop-next.found.ok.0))
    c.loop-next.invariant.1
