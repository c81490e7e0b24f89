use Rattle.std.proofs.Common.{arith}
use Rattle.epx_state.proofs.ArrayLemmas.{pair-other_length}
use Rattle.epx_state.proofs.forms.pair_of_value.Goals as goal

pub returns-in_default-as_slice : goal.returns-in_default-as_slice
returns-in_default-as_slice c = pair-other_length _ _ c.in-Some.ensures
    (omega (arith, c.as_slice.ensures.len))
