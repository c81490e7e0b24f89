use Rattle.std.proofs.Common.{arith}
use Rattle.epx_state.proofs.ArrayLemmas.{run-other_length}
use Rattle.epx_state.proofs.forms.run_of_value.Goals as goal

pub returns-in_default-clause-run : goal.returns-in_default-clause-run
returns-in_default-clause-run c = run-other_length _ _ c.in_ok-parts.ensures
    (omega (arith, c.as_slice.ensures.len))

pub returns-in_default-2-clause-run : goal.returns-in_default-2-clause-run
returns-in_default-2-clause-run c = run-other_length _ _ c.in_ok-parts.ensures
    (omega (arith, c.as_slice.ensures.len))
