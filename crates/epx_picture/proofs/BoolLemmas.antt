-- Truth values that imply each other are equal.
use Rattle.std.proofs.Common.{◌≡◌, Bool, true, false, refl, sym, IsTrue}

pub IsTrue-same : (a b : Bool) → (IsTrue a → IsTrue b) → (IsTrue b → IsTrue a) → a ≡ b
IsTrue-same true true there back = refl
IsTrue-same true false there back = sym (there refl)
IsTrue-same false true there back = back refl
IsTrue-same false false there back = refl
