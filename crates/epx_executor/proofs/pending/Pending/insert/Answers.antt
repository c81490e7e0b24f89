use Rattle.std.proofs.Common.{subst, sym}
use Rattle.epx_types.proofs.Common.{IsRising-from_strict}
use Rattle.epx_executor.proofs.PendingLemmas.{AreKeyed, AreKeyed-insert, Contains-insert_entry}
use Rattle.epx_executor.proofs.pending.Pending.insert.Goals as goal

pub invariant_of-self : goal.invariant_of-self
invariant_of-self c = (
  subst AreKeyed (sym c.in_err-insert.ensures.err) c.self.invariant.0,
  IsRising-from_strict _ c.insert.ensures.ordered,
)

pub invariant_of-self-2 : goal.invariant_of-self-2
invariant_of-self-2 c = (
  AreKeyed-insert c.self.inside.entries.entries c.insert.new.self.entries c.id.result
      c.args.entry c.self.invariant.0 c.id.ensures c.in_ok-insert.ensures.entries,
  IsRising-from_strict _ c.insert.ensures.ordered,
)

pub returns-clause-inserted : goal.returns-clause-inserted
returns-clause-inserted c = λ e.
    Contains-insert_entry c.self.inside.entries.entries c.insert.new.self.entries c.args.self.now
    c.id.result c.args.entry e c.self.invariant.0 c.self.view_is c.id.ensures c.requires
    c.in_ok-insert.ensures.entries
