use Rattle.epx_answer_laws.proofs.UniqueAnswerLemmas.{IsAuditText-unique}
use Rattle.epx_answer_laws.proofs.answers.audit_text_is_unique.Goals as goal

pub returns : goal.returns
returns c = IsAuditText-unique
