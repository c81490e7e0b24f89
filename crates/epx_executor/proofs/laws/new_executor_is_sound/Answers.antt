use Rattle.epx_types.proofs.Common.{Contains-nil}
use Rattle.epx_executor.proofs.laws.new_executor_is_sound.Goals as goal

pub returns : goal.returns
returns c = λ m rising. record {
  rising = rising;
  sound = c.nothing_done_is_sound.ensures m;
  has = λ e h left. absurd (Contains-nil e h);
}
