use Rattle.std.proofs.Common.{arith}
use Rattle.epx_types.proofs.Common.{nat_tests}
use Rattle.epx_verify.proofs.SaidValueLemmas.{said_by-short, said_by-neither}
use Rattle.epx_verify.proofs.said_line.read_said_value.Goals as goal

pub returns-in_default-as_slice : goal.returns-in_default-as_slice
returns-in_default-as_slice c =
    said_by-short _ _ c.in-Some.ensures (omega (arith, c.as_slice.ensures.len))

pub returns-in_default-more : goal.returns-in_default-more
returns-in_default-more c = said_by-neither _ _ c.in-Some.ensures
    (λ e. grind (arith, nat_tests, e, c.as_slice.ensures.len))
    (λ e. grind (arith, nat_tests, e, c.as_slice.ensures.len))
