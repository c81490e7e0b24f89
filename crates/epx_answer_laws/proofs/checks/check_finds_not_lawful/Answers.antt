use Rattle.epx_answer_laws.proofs.FindingLawLemmas.{CheckFindsNotLawful-holds}
use Rattle.epx_answer_laws.proofs.checks.check_finds_not_lawful.Goals as goal

pub returns : goal.returns
returns c = CheckFindsNotLawful-holds
