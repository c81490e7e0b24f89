-- The contents of a store.
use Rattle.std.specs.Prelude.{◌≡◌, ℕ, ℤ, pos, List, Contains, Option, Some, None, unwrap_or}
use Rattle.std.specs.FinMap as contents
use Rattle.std.specs.FinMap.{FinMap}
use Rattle.epx_types.specs.Keys.{key_cmp}

-- a finite map from the keys that are present to whole numbers, of any size; each operation of a
-- command keeps them within 64 bits if its own numbers are
abbrev pub Contents : Type 0
Contents = FinMap key_cmp ℤ

-- the contents c with the value v at the key k, or without k for None
abbrev pub assign : Contents → List ℕ → Option ℤ → Contents
assign c k None = contents.remove c k
assign c k (Some v) = contents.insert c k v

-- the value of a key; an absent key counts as 0
abbrev pub amount_at : Contents → List ℕ → ℤ
amount_at c k = unwrap_or (contents.get c k) (pos 0)

-- each of the keys has the same value in both, or is absent in both
abbrev pub AgreeOn : List (List ℕ) → Contents → Contents → Type 0
AgreeOn keys c d = (k : List ℕ) → Contains keys k → contents.get c k ≡ contents.get d k
