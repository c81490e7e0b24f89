use Rattle.epx_tool.proofs.ReportLemmas.{IsAuditText-printed}
use Rattle.epx_tool.proofs.map_texts.audit_of.Goals as goal

pub audit-requires-clause-order : goal.audit-requires-clause-order
audit-requires-clause-order g c = c.in_ok-order.ensures.whole c.in_ok-graph.ensures.graph

pub returns-clause-text : goal.returns-clause-text
returns-clause-text g c =
    rw c.new.ensures.text (IsAuditText-printed c.args.merged.now c.in_ok-found.found
    c.in_ok-text.text.items c.in_ok-found.ensures c.in_ok-text.ensures)
