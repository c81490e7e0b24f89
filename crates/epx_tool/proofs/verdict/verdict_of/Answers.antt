use Rattle.epx_tool.proofs.VerdictLineLemmas.{lawful_line-or_fault}
use Rattle.epx_tool.proofs.verdict.verdict_of.Goals as goal

pub returns-clause-text : goal.returns-clause-text
returns-clause-text g c =
    rw c.new.ensures.text
    (lawful_line-or_fault _ _ c.check_order-found.result c.in_ok-text.text.items
    c.check_order-found.ensures c.in_ok-text.ensures)
