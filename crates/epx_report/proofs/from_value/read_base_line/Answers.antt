use Rattle.std.proofs.Common.{arith}
use Rattle.epx_report.proofs.ArrayLemmas.{form_of-short, form_of-long}
use Rattle.epx_report.proofs.from_value.read_base_line.Goals as goal

pub returns-in_default-as_slice : goal.returns-in_default-as_slice
returns-in_default-as_slice c =
    form_of-short _ _ c.in-Some.ensures (omega (arith, c.as_slice.ensures.len))

pub returns-in_default-rest : goal.returns-in_default-rest
returns-in_default-rest c = form_of-long _ _ c.in-Some.ensures
    (omega (arith, c.as_slice.ensures.len))
