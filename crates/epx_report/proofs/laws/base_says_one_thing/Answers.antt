use Rattle.epx_report.proofs.BaseLemmas.{BaseSaysOneThing-holds}
use Rattle.epx_report.proofs.laws.base_says_one_thing.Goals as goal

pub returns : goal.returns
returns c = BaseSaysOneThing-holds
