use Rattle.epx_verify.proofs.SaidReadingLemmas.{SaidIsNoBadSaid-holds}
use Rattle.epx_verify.proofs.laws.said_is_no_bad_said.Goals as goal

pub returns : goal.returns
returns c = SaidIsNoBadSaid-holds
