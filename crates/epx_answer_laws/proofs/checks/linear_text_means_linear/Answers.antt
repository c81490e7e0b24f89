use Rattle.epx_answer_laws.proofs.HistoryAnswerLemmas.{LinearTextMeansLinear-holds}
use Rattle.epx_answer_laws.proofs.checks.linear_text_means_linear.Goals as goal

pub returns : goal.returns
returns c = LinearTextMeansLinear-holds
