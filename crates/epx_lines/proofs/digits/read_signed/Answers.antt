use Rattle.std.proofs.Common.{◌≡◌, get_or, arith, length, drop, take_all, ◌-◌, length-drop}
use Rattle.epx_types.proofs.Common.{IfSome_then}
use Rattle.epx_lines.specs.between.Tokens.{AreDigitsOf}
use Rattle.epx_lines.proofs.NumberTextLemmas.{number_of-minus}
use Rattle.epx_lines.proofs.digits.read_signed.Goals as goal

pub returns-in_ok-read_digits-in-45 : goal.returns-in_ok-read_digits-in-45
returns-in_ok-read_digits-in-45 c =
    let bytes = c.as_bytes.result.now in
    let n = c.in_ok-read_digits-in-45.field-0 in
    let minus : get_or bytes 0 0 ≡ 45 = omega arith in
    let rest = take_all (length bytes - 1) (drop 1 bytes) (omega (arith, length-drop 1 bytes)) in
    let digits : AreDigitsOf (drop 1 bytes) n = rw rest at c.in_ok-read_digits-in-45.ensures in
    IfSome_then c.negate.result c.negate.ensures
    (λ z h. rw (← c.as_bytes.ensures.value, h.2)
    (number_of-minus bytes n minus digits h.0 h.1))
