use Rattle.epx_linear.proofs.RealTimeLemmas.{HasRealTimeOrder-none_late, NoneLate-if_kept}
use Rattle.epx_linear.proofs.laws.none_late_keeps_real_time.Goals as goal

pub returns : goal.returns
returns c = λ commands calls whole. (
  HasRealTimeOrder-none_late commands calls whole,
  λ order. NoneLate-if_kept commands order.0 order.1 calls order.2,
)
