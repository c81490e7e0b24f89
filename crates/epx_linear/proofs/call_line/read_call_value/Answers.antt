use Rattle.std.proofs.Common.{arith}
use Rattle.epx_types.proofs.Common.{nat_tests}
use Rattle.epx_linear.proofs.CallLineLemmas.{call_from-short, call_from-neither}
use Rattle.epx_linear.proofs.call_line.read_call_value.Goals as goal

pub returns-in_default-as_slice : goal.returns-in_default-as_slice
returns-in_default-as_slice c =
    call_from-short _ _ c.in-Some.ensures (omega (arith, c.as_slice.ensures.len))

pub returns-in_default-more : goal.returns-in_default-more
returns-in_default-more c = call_from-neither _ _ c.in-Some.ensures
    (λ e. grind (arith, nat_tests, e, c.as_slice.ensures.len))
    (λ e. grind (arith, nat_tests, e, c.as_slice.ensures.len))
