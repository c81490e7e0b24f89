-- Commands conflict exactly if one of two tests finds a key in common.
use Rattle.std.proofs.Common.{◌≡◌, ◌↔◌, inl, inr, ℕ, List, Bool, false, Contains, IsTrue, sym, ◌∙◌}
use Rattle.epx_types.proofs.Common.{false≢true}
use Rattle.epx_audit.specs.inner.NodeConflicts.{KeyLists, KeysConflict}

abbrev pub ShareKey : List (List ℕ) → List (List ℕ) → Type 0
ShareKey ks js = (k : List ℕ) × Contains ks k × Contains js k

pub KeysConflict-by_first : (v w : KeyLists) (first : Bool)
    → (IsTrue first ↔ ShareKey v.written w.touched) → IsTrue first
    → IsTrue first ↔ KeysConflict v w
KeysConflict-by_first v w first exact holds =
    ((λ h. let k = exact.0 h in (k.0, inl (k.1, k.2))), λ _. holds)

pub KeysConflict-by_second : (v w : KeyLists) (first second : Bool)
    → (IsTrue first ↔ ShareKey v.written w.touched)
    → (IsTrue second ↔ ShareKey v.touched w.written) → first ≡ false
    → IsTrue second ↔ KeysConflict v w
KeysConflict-by_second v w first second exact exact' fails = (forth, back) where
  forth : IsTrue second → KeysConflict v w
  forth h = let k = exact'.0 h in (k.0, inr (k.1, k.2))

  back : KeysConflict v w → IsTrue second
  back (k, inl (a, b)) = absurd (false≢true (sym fails ∙ exact.1 (k, a, b)))
  back (k, inr (a, b)) = exact'.1 (k, a, b)
