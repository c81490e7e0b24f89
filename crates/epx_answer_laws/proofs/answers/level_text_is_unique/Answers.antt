use Rattle.epx_answer_laws.proofs.UniqueAnswerLemmas.{IsLevelText-unique}
use Rattle.epx_answer_laws.proofs.answers.level_text_is_unique.Goals as goal

pub returns : goal.returns
returns c = IsLevelText-unique
