use Rattle.std.proofs.Common.{arith, rules}
use Rattle.epx_lines.proofs.NumberTextLemmas.{AllDigits-more}
use Rattle.epx_lines.proofs.digits.read_digits.Goals as goal

pub loop-byte-preserved : goal.loop-byte-preserved
loop-byte-preserved c =
    let so_far = c.loop-byte.invariant in
    let more = AllDigits-more c.args.bytes.now c.loop-byte.byte-index c.loop-byte.number
    so_far.all_digits so_far.value (omega arith) (search rules) in
    record { all_digits = more.0; value = rw c.from.ensures more.1 }
