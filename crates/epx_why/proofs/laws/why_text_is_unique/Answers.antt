use Rattle.epx_why.proofs.UniqueTextLemmas.{WhyTextIsUnique-holds}
use Rattle.epx_why.proofs.laws.why_text_is_unique.Goals as goal

pub returns : goal.returns
returns c = WhyTextIsUnique-holds
