use Rattle.epx_verify.proofs.WrittenSaidLemmas.{SaidTextIsSaid-holds}
use Rattle.epx_verify.proofs.laws.said_text_is_said.Goals as goal

pub returns : goal.returns
returns c = SaidTextIsSaid-holds
