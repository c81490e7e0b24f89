use Rattle.epx_answer_laws.proofs.FindingLawLemmas.{AuditFindsNotCovered-holds}
use Rattle.epx_answer_laws.proofs.checks.audit_finds_not_covered.Goals as goal

pub returns : goal.returns
returns c = AuditFindsNotCovered-holds
