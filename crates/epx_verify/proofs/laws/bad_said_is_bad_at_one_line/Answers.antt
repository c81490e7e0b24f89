use Rattle.epx_verify.proofs.SaidReadingLemmas.{BadSaidIsBadAtOneLine-holds}
use Rattle.epx_verify.proofs.laws.bad_said_is_bad_at_one_line.Goals as goal

pub returns : goal.returns
returns c = BadSaidIsBadAtOneLine-holds
