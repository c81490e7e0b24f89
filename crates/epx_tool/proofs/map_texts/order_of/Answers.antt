use Rattle.std.proofs.Common.{subst, sym}
use Rattle.epx_types.proofs.Common.{IsWaitingList}
use Rattle.epx_tool.proofs.map_texts.order_of.Goals as goal

pub returns-clause-found : goal.returns-clause-found
returns-clause-found g c =
    let m = c.args.merged.now in
    rw c.new.ensures.found (c.some_wait-has_findings.ensures m
    (subst (IsWaitingList m) (sym c.deref.ensures.value)
    (c.in_ok-waiters.ensures m c.in_ok-graph.ensures.graph)))
