use Rattle.epx_executor.proofs.PendingLemmas.{MatchOption-looked_up, IfSome-only_looked_up}
use Rattle.epx_executor.proofs.pending.Pending.get.Goals as goal

pub returns-clause-found : goal.returns-clause-found
returns-clause-found c =
    MatchOption-looked_up c.args.id c.self.inside.entries.entries c.args.self.now c.get.result
    c.self.invariant.0 c.self.view_is c.get.ensures.value

pub returns-clause-only : goal.returns-clause-only
returns-clause-only c =
    IfSome-only_looked_up c.args.id c.self.inside.entries.entries c.args.self.now c.get.result
    c.self.invariant.0 c.self.invariant.1 c.self.view_is (MatchOption-looked_up c.args.id
    c.self.inside.entries.entries c.args.self.now c.get.result c.self.invariant.0 c.self.view_is
    c.get.ensures.value)
