use Rattle.std.proofs.Common.{subst}
use Rattle.epx_types.proofs.Common.{IsRising, IsRising-from_strict}
use Rattle.epx_executor.proofs.PendingLemmas.{AreKeyed-remove, Contains-remove_entry}
use Rattle.epx_executor.proofs.pending.Pending.remove.Goals as goal

pub invariant_of-self : goal.invariant_of-self
invariant_of-self c = (
  AreKeyed-remove c.self.inside.entries.entries c.remove.new.self.entries c.args.id
      c.self.invariant.0 c.remove.ensures.entries,
  IsRising-from_strict _ c.remove.ensures.ordered,
)

pub returns-clause-left : goal.returns-clause-left
returns-clause-left c = λ e.
    Contains-remove_entry c.self.inside.entries.entries c.remove.new.self.entries c.args.self.now
    c.args.id e c.self.invariant.0 c.self.invariant.1 c.self.view_is c.remove.ensures.entries

pub returns-clause-rising : goal.returns-clause-rising
returns-clause-rising c =
    subst IsRising (AreKeyed-remove c.self.inside.entries.entries c.remove.new.self.entries
    c.args.id c.self.invariant.0 c.remove.ensures.entries)
    (IsRising-from_strict _ c.remove.ensures.ordered)
