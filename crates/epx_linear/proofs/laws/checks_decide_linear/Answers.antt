use Rattle.epx_linear.proofs.LinearLemmas.{IsLinear-from_checks, All-from_IsLinear}
use Rattle.epx_linear.proofs.laws.checks_decide_linear.Goals as goal

pub returns : goal.returns
returns c = λ ids commands replies h checks late whole are found. (
  IsLinear-from_checks ids commands replies h checks late whole are found,
  All-from_IsLinear ids commands replies h checks late whole are found,
)
