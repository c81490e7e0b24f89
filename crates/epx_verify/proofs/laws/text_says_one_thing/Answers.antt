use Rattle.epx_verify.proofs.SaidReadingLemmas.{TextSaysOneThing-holds}
use Rattle.epx_verify.proofs.laws.text_says_one_thing.Goals as goal

pub returns : goal.returns
returns c = TextSaysOneThing-holds
