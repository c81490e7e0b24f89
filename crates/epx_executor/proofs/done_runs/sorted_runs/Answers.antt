use Rattle.std.proofs.Common.{◌↔◌, ◌+◌, List, Contains, take, sym, subst, arith}
use Rattle.epx_types.proofs.Common.{IsPermutation, All-push, take_all}
use Rattle.epx_types.specs.declared.id.Id.{Id}
use Rattle.epx_executor.specs.declared.done_runs.Run.{Run}
use Rattle.epx_executor.specs.Runs.{AreFilled, IsInRuns, IsFilledRun}
use Rattle.epx_executor.proofs.RunLemmas.{IsInRuns-of_more, AreFilled-sorted, IsInRuns-sorted}
use Rattle.epx_executor.proofs.RunLemmas.{BeginInOrder-from_sorted, Run-by_first}
use Rattle.epx_executor.proofs.done_runs.sorted_runs.Goals as goal

pub loop-id-preserved : goal.loop-id-preserved
loop-id-preserved c =
    let items = c.in_ok-push.ensures.items in (
      subst AreFilled (sym items) (All-push IsFilledRun c.loop-id.all.items c.of.result
          c.loop-id.invariant.0 c.of.ensures.filled),
      λ x. subst (λ (rs : List Run). IsInRuns rs x
          ↔ Contains (take (c.loop-id.id-index + 1) c.args.ids.now) x) (sym items)
          (IsInRuns-of_more c.args.ids.now c.loop-id.id-index (record { replica = 0; number = 0 })
          c.loop-id.all.items c.of.result c.loop-id-test.true c.loop-id.invariant.1
          c.of.ensures.alone x),
    )

pub returns-clause-filled : goal.returns-clause-filled
returns-clause-filled c =
    let moved = subst (λ (rs : List Run). IsPermutation rs c.sort_unstable.new.self.items)
    c.in_ok-extend_from_slice.ensures.items c.sort_unstable.ensures.permutation in
    AreFilled-sorted c.loop-id.all.items c.args.runs.now c.sort_unstable.new.self.items moved
    c.loop-id.invariant.0 c.requires

pub returns-clause-order : goal.returns-clause-order
returns-clause-order c =
    BeginInOrder-from_sorted _ c.sort_unstable.new.self.items Run-by_first
    c.sort_unstable.ensures.sorted

pub returns-clause-members : goal.returns-clause-members
returns-clause-members c = λ x.
    let moved = subst (λ (rs : List Run). IsPermutation rs c.sort_unstable.new.self.items)
    c.in_ok-extend_from_slice.ensures.items c.sort_unstable.ensures.permutation in
    IsInRuns-sorted c.loop-id.all.items c.args.runs.now c.sort_unstable.new.self.items moved
    c.args.ids.now x (subst (λ (ids : List Id). IsInRuns c.loop-id.all.items x ↔ Contains ids x)
    (take_all c.loop-id.id-index c.args.ids.now (omega arith)) (c.loop-id.invariant.1 x))
