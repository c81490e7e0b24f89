use Rattle.epx_answer_laws.proofs.UniqueAnswerLemmas.{IsOrderText-unique}
use Rattle.epx_answer_laws.proofs.answers.order_text_is_unique.Goals as goal

pub returns : goal.returns
returns c = IsOrderText-unique
