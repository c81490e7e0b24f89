use Rattle.std.proofs.Common.{◌≡◌, ◌<◌, length, get_or, decimal, ap, arith}
use Rattle.std.proofs.lemmas.Fmt.{decimal_nonempty}
use Rattle.epx_names.proofs.IdNameLemmas.{decimal-no_plus, decimal-leading_zero}
use Rattle.epx_names.proofs.IdNameLemmas.{IfSome-parsed_decimal, IfNone-parsed_decimal}
use Rattle.epx_names.proofs.id_name.read_number.Goals as goal

pub returns-in_err-first-clause-none : goal.returns-in_err-first-clause-none
returns-in_err-first-clause-none c = rw c.from_residual.ensures
    (λ n small is.
    absurd (omega (
      arith,
      c.in_err-first.ensures.item.3,
      ap length c.as_bytes.ensures.value,
      ap length is,
      decimal_nonempty n small,
    )))

pub returns-then-first-eq43-clause-none : goal.returns-then-first-eq43-clause-none
returns-then-first-eq43-clause-none c = λ n small is.
    let first = c.in_ok-first.ensures.item.3.1 0 in
    decimal-no_plus n small (cc)

pub returns-then-text-gt1-clause-none : goal.returns-then-text-gt1-clause-none
returns-then-text-gt1-clause-none c = λ n small is.
    let first = c.in_ok-first.ensures.item.3.1 0 in
    let zero : get_or (decimal n) 0 0 ≡ 48 = cc in
    omega (arith, decimal-leading_zero n small zero, ap length is)

pub returns-clause-some : goal.returns-clause-some
returns-clause-some c =
    let first = c.in_ok-first.ensures.item.3.1 0 in
    let is = c.as_bytes.ensures.value in
    let some : 0 < length c.args.text.now =
    omega (arith, c.in_ok-first.ensures.item.3.0, ap length is) in
    rw c.ok.ensures.value
    (IfSome-parsed_decimal c.args.text.now c.parse.result c.parse.ensures.value.0
    (λ plus. c.if-first-eq43.false (cc))
    (λ zero.
    let is_zero : c.in_ok-first.field-0.now ≡ 48 = cc in
    omega (arith, is_zero, c.else-first-eq48.either)))

pub returns-clause-none : goal.returns-clause-none
returns-clause-none c = rw c.ok.ensures.value
    (IfNone-parsed_decimal c.args.text.now c.parse.result c.parse.ensures.value.0)
