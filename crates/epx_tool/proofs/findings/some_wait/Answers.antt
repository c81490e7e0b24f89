use Rattle.epx_tool.proofs.FindingLemmas as finding
use Rattle.epx_tool.proofs.findings.some_wait.Goals as goal

pub returns : goal.returns
returns c = λ m listed. finding.SomeWaits-decides m c.args.waiters.now c.is_empty.result listed
    c.is_empty.ensures
