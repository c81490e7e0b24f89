-- Keys of the store, each as the bytes of its text.
use Rattle.std.specs.Prelude.{◌≡◌, true, ℕ, ◌≤◌, List, [], ◌∷◌, length}
use Rattle.std.specs.declared.cmp.Ordering.{Ordering}
use Rattle.std.specs.Ordering.{nat_cmp, is_lt}
use Rattle.std.specs.Cmp.Lexicographic.{slice_cmp}
use Rattle.std.specs.BTreeSet.{insert_key}

-- a key has 1 to 64 bytes
abbrev pub FitsKey : List ℕ → Type 0
FitsKey text = (1 ≤ length text) × (length text ≤ 64)

-- the order of keys, byte by byte; a key comes before the longer keys that begin with it
abbrev pub key_cmp : List ℕ → List ℕ → Ordering
key_cmp = slice_cmp nat_cmp

-- the key j comes before the key k in the order of keys
abbrev pub KeyBelow : List ℕ → List ℕ → Type 0
KeyBelow j k = is_lt (key_cmp j k) ≡ true

-- more keys, each inserted in order into a rising list
abbrev pub add_keys : List (List ℕ) → List (List ℕ) → List (List ℕ)
add_keys rising [] = rising
add_keys rising (k ∷ ks) = add_keys (insert_key key_cmp rising k) ks

-- the distinct keys of a list, in rising order
abbrev pub rising_keys : List (List ℕ) → List (List ℕ)
rising_keys ks = add_keys [] ks
