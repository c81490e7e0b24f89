use Rattle.epx_why.proofs.TextExistenceLemmas.{WhyTextExists-holds}
use Rattle.epx_why.proofs.laws.why_text_exists.Goals as goal

pub returns : goal.returns
returns c = WhyTextExists-holds
