use Rattle.epx_tool.proofs.VerdictLineLemmas.{lawful_line-or_fault}
use Rattle.epx_tool.proofs.verdict.prefix_verdict_of.Goals as goal

pub returns-clause-text : goal.returns-clause-text
returns-clause-text g c =
    rw c.new.ensures.text
    (lawful_line-or_fault _ _ c.check_prefix-found.result c.in_ok-text.text.items
    c.check_prefix-found.ensures c.in_ok-text.ensures)
