use Rattle.std.proofs.Common.{arith}
use Rattle.epx_state.proofs.ArrayLemmas.{counts-other_length}
use Rattle.epx_state.proofs.forms.counts_of_value.Goals as goal

pub returns-in_default : goal.returns-in_default
returns-in_default c = counts-other_length _ _ c.in_ok-parts.ensures
    (omega (arith, c.as_slice.ensures.len))

pub returns-in_default-2 : goal.returns-in_default-2
returns-in_default-2 c = counts-other_length _ _ c.in_ok-parts.ensures
    (omega (arith, c.as_slice.ensures.len))
