use Rattle.epx_verify.proofs.SaidReadingLemmas.{SaidOrBadSaid-holds}
use Rattle.epx_verify.proofs.laws.said_or_bad_said.Goals as goal

pub returns : goal.returns
returns c = SaidOrBadSaid-holds
