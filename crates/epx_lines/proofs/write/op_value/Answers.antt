use Rattle.std.proofs.Common.{Option, Some, None, ℤ, List, ℕ}
use Rattle.std.specs.Option.{IfSome}
use Rattle.epx_types.proofs.Common.{FitsKey, on_ok_weaker}
use Rattle.epx_types.specs.declared.op.Op.TheVariants.{Is}
use Rattle.epx_lines.specs.inner.WrittenParts.{IsWritableOp, IsWritableValue}
use Rattle.epx_lines.proofs.WrittenPartLemmas.{IsWritableOp-Get, IsWritableOp-Put}
use Rattle.epx_lines.proofs.WrittenPartLemmas.{IsWritableOp-Del, IsWritableOp-Add}
use Rattle.epx_lines.proofs.WrittenPartLemmas.{IsWritableOp-Is_none, IsWritableOp-Is_some}
use Rattle.epx_lines.proofs.WrittenPartLemmas.{IsWritableOp-Floor, IsWritableOp-Copy}
use Rattle.epx_lines.proofs.write.op_value.Goals as goal

pub returns-in-Get-clause-fits : goal.returns-in-Get-clause-fits
returns-in-Get-clause-fits c =
    rw c.in-Get.is (on_ok_weaker _ (IsWritableOp-Get _) c.name_and_key.ensures.fits)

pub returns-in-Put-clause-fits : goal.returns-in-Put-clause-fits
returns-in-Put-clause-fits c = rw c.in-Put.is
    (on_ok_weaker _ (λ h. IsWritableOp-Put _ _ h c.number_value.ensures.fits)
    c.with_argument.ensures.fits)

pub returns-in-Del-clause-fits : goal.returns-in-Del-clause-fits
returns-in-Del-clause-fits c =
    rw c.in-Del.is (on_ok_weaker _ (IsWritableOp-Del _) c.name_and_key-in-Del.ensures.fits)

pub returns-in-Add-clause-fits : goal.returns-in-Add-clause-fits
returns-in-Add-clause-fits c = rw c.in-Add.is
    (on_ok_weaker _ (λ h. IsWritableOp-Add _ _ h c.number_value-in-Add.ensures.fits)
    c.with_argument-in-Add.ensures.fits)

IsWritableOp-Is : (k : List ℕ) (o : Option ℤ) → IfSome o IsWritableValue → FitsKey k
    → IsWritableOp (Is k o)
IsWritableOp-Is k None f h = IsWritableOp-Is_none k h
IsWritableOp-Is k (Some v) f h = IsWritableOp-Is_some k v h f

pub returns-in-Is-clause-fits : goal.returns-in-Is-clause-fits
returns-in-Is-clause-fits c = rw c.in-Is.is
    (on_ok_weaker _ (IsWritableOp-Is _ _ c.value_or_null.ensures.fits)
    c.with_argument-in-Is.ensures.fits)

pub returns-in-Floor-clause-fits : goal.returns-in-Floor-clause-fits
returns-in-Floor-clause-fits c = rw c.in-Floor.is
    (on_ok_weaker _ (λ h. IsWritableOp-Floor _ _ h c.number_value-in-Floor.ensures.fits)
    c.with_argument-in-Floor.ensures.fits)

pub returns-in_ok-key_value-in-Copy-clause-fits : goal.returns-in_ok-key_value-in-Copy-clause-fits
returns-in_ok-key_value-in-Copy-clause-fits c = rw c.in-Copy.is
    (on_ok_weaker _ (λ h. IsWritableOp-Copy _ _ h c.in_ok-key_value-in-Copy.ensures.fits)
    c.with_argument-in-Copy.ensures.fits)
