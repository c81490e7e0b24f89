use Rattle.epx_linear.proofs.FoundLemmas.{HasRealTimeOrder-none_found, All-none_found}
use Rattle.epx_linear.proofs.laws.none_found_keeps_real_time.Goals as goal

pub returns : goal.returns
returns c = λ commands calls found whole are. (
  HasRealTimeOrder-none_found commands calls found whole are,
  All-none_found commands calls found are,
)
