use Rattle.epx_linear.proofs.LinearTextLemmas.{LinearTextIsUnique-holds}
use Rattle.epx_linear.proofs.laws.linear_text_is_unique.Goals as goal

pub returns : goal.returns
returns c = LinearTextIsUnique-holds
