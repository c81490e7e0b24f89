use Rattle.epx_merge.proofs.ExistenceLemmas.{IsAccepted-or_refused}
use Rattle.epx_merge.proofs.laws.logs_have_an_answer.Goals as goal

pub returns : goal.returns
returns c = IsAccepted-or_refused
