-- Each part of a written line reads as what was written, and is short.
use Rattle.std.proofs.Common.{◌≡◌, ℕ, suc, ◌+◌, ◌*◌, ◌^◌, ◌<◌, ◌≤◌, ℤ, pos, negsuc, Bool, true}
use Rattle.std.proofs.Common.{false, cond, nat_lt, codes, List, [], ◌∷◌, ◌++◌, length, Some, None}
use Rattle.std.proofs.Common.{option_map, refl, ap, arith, length-append, lit<, lit≤}
use Rattle.epx_types.proofs.Common.{nat_tests, length-decimal-le, w64, FitsKey}
use Rattle.epx_types.specs.declared.op.Op.TheVariants.{Get, Put, Del, Add, Is, Floor, Copy}
use Rattle.std.proofs.lemmas.Int.{ints}
use Rattle.std.specs.Int.RustNames.{FitsSigned}
use Rattle.std.specs.Fmt.{decimal}
use Rattle.json.specs.Print.{escape_byte, escape_letter, escape, quoted}
use Rattle.serde_json.specs.Data.{Data, null, number, unsigned, string}
use Rattle.serde_json.specs.Find.{of_integer}
use Rattle.serde_json.specs.Written.{compact_text}
use Rattle.epx_lines.specs.Elements.{whole}
use Rattle.epx_lines.specs.DependencyList.{id_of}
use Rattle.epx_lines.specs.OperationList.{key_of, value_or_null, op_with_key, op_with_value, op_of}
use Rattle.epx_lines.specs.Text.{op_pair, op_triple, data_of_op}
use Rattle.epx_lines.specs.inner.WrittenParts.{IsWritableId, IsWritableValue, IsWritableOp}

-- ---- numbers and keys

pub whole-fits : (bound n : ℕ) → n < bound → whole bound (number (unsigned n)) ≡ Some n
unfolding whole
whole-fits bound n l = grind (arith, nat_tests)

pub IsWritableValue-from_range : (v : ℤ) → FitsSigned w64 v → IsWritableValue v
IsWritableValue-from_range (pos n) h = let l : n < 2 ^ 63 = omega (arith, ints, h) in record {
  reads = grind (arith, nat_tests);
  short = length-decimal-le 20 n (lit< tt) (omega arith) (omega arith);
}
IsWritableValue-from_range (negsuc n) h = let l : n < 2 ^ 63 = omega (arith, ints, h) in record {
  reads = refl;
  short = omega (arith, length-decimal-le 19 (suc n) (lit< tt) (omega arith) (omega arith));
}

pub key_of-fits : (k : List ℕ) → FitsKey k → key_of (string k) ≡ Some k
unfolding key_of
key_of-fits k h = grind (arith, nat_tests, h.0, h.1)

length-escape_byte : (x : ℕ) → length (escape_byte x) ≤ 6
unfolding escape_byte
length-escape_byte x = at_tests (nat_lt 0 (escape_letter x)) (nat_lt x 32) _ _ _ (omega arith)
    (omega arith) (omega arith)
  where
    at_tests : (s t : Bool) (a b c : List ℕ) → length a ≤ 6 → length b ≤ 6 → length c ≤ 6
        → length (cond s a (cond t b c)) ≤ 6
    at_tests true t a b c p q r = p
    at_tests false true a b c p q r = q
    at_tests false false a b c p q r = r

length-escape : (s : List ℕ) → length (escape s) ≤ 6 * length s
length-escape [] = omega arith
length-escape (x ∷ s) =
    omega (arith, length-append (escape_byte x) (escape s), length-escape_byte x, length-escape s)

pub length-quoted : (k : List ℕ) → FitsKey k → length (quoted k) ≤ 386
length-quoted k h = omega (arith, length-append (escape k) (34 ∷ []), length-escape k, h.1)

-- ---- dependencies

pub IsWritableId-within : (r i : ℕ) → r < 256 → i < 2 ^ 64
    → IsWritableId (record { replica = r; number = i })
unfolding id_of
IsWritableId-within r i p q = record {
  reads = rw (whole-fits 256 r p, whole-fits (2 ^ 64) i q);
  short = omega (
    arith,
    length-decimal-le 3 r (lit< tt) (omega arith) (omega arith),
    length-decimal-le 20 i (lit< tt) (omega arith) q,
    length-append (decimal r) (44 ∷ (decimal i ++ 93 ∷ [])),
    length-append (decimal i) (93 ∷ []),
  );
}

-- ---- operations

length-op_pair : (name k : List ℕ) → length (quoted name) ≤ 7 → FitsKey k
    → length (compact_text (op_pair name k)) ≤ 782
length-op_pair name k n h =
    omega (
      arith,
      length-append (quoted name) (44 ∷ (quoted k ++ 93 ∷ [])),
      length-append (quoted k) (93 ∷ []),
      length-quoted k h,
    )

length-op_triple : (name k : List ℕ) (d : Data)
    → length (quoted name) + length (compact_text d) ≤ 392 → FitsKey k
    → length (compact_text (op_triple name k d)) ≤ 782
length-op_triple name k d n h =
    omega (
      arith,
      length-append (quoted name)
          (44 ∷ (quoted k ++ 44 ∷ (compact_text d ++ 93 ∷ []))),
      length-append (quoted k) (44 ∷ (compact_text d ++ 93 ∷ [])),
      length-append (compact_text d) (93 ∷ []),
      length-quoted k h,
    )

pub IsWritableOp-Get : (k : List ℕ) → FitsKey k → IsWritableOp (Get k)
unfolding data_of_op op_of op_with_key escape_byte
IsWritableOp-Get k h = record {
  reads = rw (key_of-fits k h);
  short = length-op_pair (codes "get") k (lit≤ tt) h;
}

pub IsWritableOp-Del : (k : List ℕ) → FitsKey k → IsWritableOp (Del k)
unfolding data_of_op op_of op_with_key escape_byte
IsWritableOp-Del k h = record {
  reads = rw (key_of-fits k h);
  short = length-op_pair (codes "del") k (lit≤ tt) h;
}

pub IsWritableOp-Put : (k : List ℕ) (v : ℤ) → FitsKey k → IsWritableValue v
    → IsWritableOp (Put k v)
unfolding data_of_op op_of op_with_value escape_byte
IsWritableOp-Put k v h f = record {
  reads = rw (key_of-fits k h) (ap (option_map (Put k)) f.reads);
  short = length-op_triple (codes "put") k (number (of_integer v)) (omega (arith, f.short)) h;
}

pub IsWritableOp-Add : (k : List ℕ) (v : ℤ) → FitsKey k → IsWritableValue v
    → IsWritableOp (Add k v)
unfolding data_of_op op_of op_with_value escape_byte
IsWritableOp-Add k v h f = record {
  reads = rw (key_of-fits k h) (ap (option_map (Add k)) f.reads);
  short = length-op_triple (codes "add") k (number (of_integer v)) (omega (arith, f.short)) h;
}

pub IsWritableOp-Floor : (k : List ℕ) (v : ℤ) → FitsKey k → IsWritableValue v
    → IsWritableOp (Floor k v)
unfolding data_of_op op_of op_with_value escape_byte
IsWritableOp-Floor k v h f = record {
  reads = rw (key_of-fits k h) (ap (option_map (Floor k)) f.reads);
  short = length-op_triple (codes "floor") k (number (of_integer v)) (omega (arith, f.short)) h;
}

pub IsWritableOp-Is_none : (k : List ℕ) → FitsKey k → IsWritableOp (Is k None)
unfolding data_of_op op_of op_with_value value_or_null escape_byte
IsWritableOp-Is_none k h = record {
  reads = rw (key_of-fits k h);
  short = length-op_triple (codes "is") k null (lit≤ tt) h;
}

pub IsWritableOp-Is_some : (k : List ℕ) (v : ℤ) → FitsKey k → IsWritableValue v
    → IsWritableOp (Is k (Some v))
unfolding data_of_op op_of op_with_value value_or_null escape_byte
IsWritableOp-Is_some k v h f = record {
  reads = rw (key_of-fits k h) (ap (λ o. option_map (Is k) (option_map Some o)) f.reads);
  short = length-op_triple (codes "is") k (number (of_integer v)) (omega (arith, f.short)) h;
}

pub IsWritableOp-Copy : (k j : List ℕ) → FitsKey k → FitsKey j → IsWritableOp (Copy k j)
unfolding data_of_op op_of op_with_value escape_byte
IsWritableOp-Copy k j h f = record {
  reads = rw (key_of-fits k h, key_of-fits j f);
  short = length-op_triple (codes "copy") k (string j) (omega (arith, length-quoted j f)) h;
}
