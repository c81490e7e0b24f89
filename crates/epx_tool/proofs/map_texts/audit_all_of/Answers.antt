use Rattle.epx_tool.proofs.map_texts.audit_all_of.Goals as goal

pub uncovered_text-requires-clause-order : goal.uncovered_text-requires-clause-order
uncovered_text-requires-clause-order g c = c.in_ok-order.ensures.whole c.in_ok-graph.ensures.graph
