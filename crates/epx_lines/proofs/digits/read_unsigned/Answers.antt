use Rattle.std.proofs.Common.{arith}
use Rattle.epx_lines.proofs.NumberTextLemmas.{number_of-digits}
use Rattle.epx_lines.proofs.digits.read_unsigned.Goals as goal

pub returns : goal.returns
returns c = rw (← c.as_bytes.ensures.value)
    (number_of-digits _ _ c.in_ok-read_digits.ensures (omega arith))
