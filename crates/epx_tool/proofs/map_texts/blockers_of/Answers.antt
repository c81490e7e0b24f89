use Rattle.std.proofs.Common.{sym, subst}
use Rattle.epx_types.proofs.Common.{IsWaitingList}
use Rattle.epx_tool.proofs.map_texts.blockers_of.Goals as goal

pub returns-clause-text : goal.returns-clause-text
returns-clause-text g c =
    rw c.new.ensures.text (c.in_ok-text.ensures c.args.merged.now c.in_ok-graph.ensures.graph)

pub returns-clause-found : goal.returns-clause-found
returns-clause-found g c =
    let m = c.args.merged.now in
    rw c.new.ensures.found (c.some_wait-has_findings.ensures m
    (subst (IsWaitingList m) (sym c.deref.ensures.value)
    (c.in_ok-waiters.ensures m c.in_ok-graph.ensures.graph)))
