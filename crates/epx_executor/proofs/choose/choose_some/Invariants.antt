use Rattle.std.proofs.Common.{take, Contains}
use Rattle.epx_types.proofs.Common.{Instance}
use Rattle.epx_executor.specs.inner.Choices.{AreBlocked, IsSortedOut}
use Rattle.epx_executor.proofs.choose.choose_some.Given as goal

abbrev pub invariant-loop-entry : goal.invariant-loop-entry
invariant-loop-entry l = record {
  sorted : (e : Instance) → Contains (take l.entry-index l.came) e
      → IsSortedOut l.done l.blockers l.choice.roots.items l.choice.blocked.items e;
  needs : AreBlocked l.done l.pending l.came l.ids.items l.blockers l.choice.blocked.items;
}
