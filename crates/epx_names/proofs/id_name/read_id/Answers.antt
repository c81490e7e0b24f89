use Rattle.std.proofs.Common.{sym, ◌∙◌, arith}
use Rattle.std.proofs.lemmas.Fmt.{decimal_injective}
use Rattle.epx_names.proofs.IdNameLemmas.{position_or_len-dot, before_first-dot, after_first-dot}
use Rattle.epx_names.proofs.IdNameLemmas.{OkIff-none}
use Rattle.epx_names.proofs.id_name.read_id.Goals as goal

pub returns-in_err-replica-clause-none : goal.returns-in_err-replica-clause-none
returns-in_err-replica-clause-none c = rw c.from_residual.ensures
    (λ x fits is.
    let split = c.in_err-replica.ensures.byte (omega arith) (λ w o h. h) in
    omega (arith, split, position_or_len-dot c.args.text.now x fits is))

pub returns-in_err-read_number-clause-none : goal.returns-in_err-read_number-clause-none
returns-in_err-read_number-clause-none c = rw c.from_residual-in_err-read_number.ensures
    (λ x fits is.
    let split = c.in_ok-replica.ensures.byte (omega arith) (λ w o h. h) in
    c.in_err-read_number.ensures.none x.replica (omega arith)
    (split.0 ∙ before_first-dot c.args.text.now x fits is))

pub returns-in_err-replica-2-clause-none : goal.returns-in_err-replica-2-clause-none
returns-in_err-replica-2-clause-none c = rw c.from_residual-in_err-replica-2.ensures
    (λ x fits is.
    let split = c.in_ok-replica.ensures.byte (omega arith) (λ w o h. h) in
    let name = sym c.in_ok-read_number.ensures.some ∙ split.0
    ∙ before_first-dot c.args.text.now x fits is in
    let same = decimal_injective c.in_ok-read_number.field-0 x.replica (omega arith) (omega arith)
    name in
    OkIff-none _ c.try_from.result c.try_from.ensures c.in_err-replica-2.ensures.value
    (omega arith))

pub returns-in_err-number-clause-none : goal.returns-in_err-number-clause-none
returns-in_err-number-clause-none c = rw c.from_residual-in_err-number.ensures
    (λ x fits is.
    let split = c.in_ok-replica.ensures.byte (omega arith) (λ w o h. h) in
    c.in_err-number.ensures.none x.number fits.1
    (split.1 ∙ after_first-dot c.args.text.now x fits is))
