-- The operation that is read from each kind of third part: a number, a key, or null.
use Rattle.std.proofs.Common.{◌≡◌, ℕ, ℤ, is_some, false, List, Some, None, refl}
use Rattle.serde_json.specs.Data.{Data, null, boolean, number, string, array, object}
use Rattle.serde_json.specs.Find.{as_null}
use Rattle.epx_lines.specs.Elements.{signed}
use Rattle.epx_lines.specs.OperationList.{key_of, value_or_null}

-- a number
pub value_or_null-signed : (d : Data) (n : ℤ) → signed d ≡ Some n → value_or_null d ≡ Some (Some n)
unfolding value_or_null
value_or_null-signed null n h = absurd (cc h)
value_or_null-signed (boolean b) n h = absurd (cc h)
value_or_null-signed (number x) n h = rw h
value_or_null-signed (string s) n h = absurd (cc h)
value_or_null-signed (array ds) n h = absurd (cc h)
value_or_null-signed (object ms) n h = absurd (cc h)

pub key_of-signed : (d : Data) (n : ℤ) → signed d ≡ Some n → key_of d ≡ None
unfolding key_of
key_of-signed null n h = refl
key_of-signed (boolean b) n h = refl
key_of-signed (number x) n h = refl
key_of-signed (string s) n h = absurd (cc h)
key_of-signed (array ds) n h = refl
key_of-signed (object ms) n h = refl

-- a key
pub signed-key_of : (d : Data) (k : List ℕ) → key_of d ≡ Some k → signed d ≡ None
unfolding key_of
signed-key_of null k h = refl
signed-key_of (boolean b) k h = refl
signed-key_of (number x) k h = absurd (cc h)
signed-key_of (string s) k h = refl
signed-key_of (array ds) k h = refl
signed-key_of (object ms) k h = refl

pub value_or_null-key_of : (d : Data) (k : List ℕ) → key_of d ≡ Some k → value_or_null d ≡ None
unfolding key_of value_or_null
value_or_null-key_of null k h = absurd (cc h)
value_or_null-key_of (boolean b) k h = refl
value_or_null-key_of (number x) k h = absurd (cc h)
value_or_null-key_of (string s) k h = refl
value_or_null-key_of (array ds) k h = refl
value_or_null-key_of (object ms) k h = refl

-- neither a number nor null
pub value_or_null-neither : (d : Data) → is_some (as_null d) ≡ false → signed d ≡ None
    → value_or_null d ≡ None
unfolding value_or_null
value_or_null-neither null other none = absurd (cc other)
value_or_null-neither (boolean b) other none = refl
value_or_null-neither (number x) other none = rw none
value_or_null-neither (string s) other none = refl
value_or_null-neither (array ds) other none = refl
value_or_null-neither (object ms) other none = refl
