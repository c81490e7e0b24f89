-- The operations of a line.
use Rattle.std.specs.Prelude.{◌&&◌, nat_lt, nat_le, ℕ, ℤ, List, [], ◌∷◌, length, codes, Option}
use Rattle.std.specs.Prelude.{Some, None, option_map, option_and_then, if◌then◌else◌}
use Rattle.std.specs.Str.{bytes_eq}
use Rattle.serde_json.specs.Data.{Data, null}
use Rattle.serde_json.specs.Find.{as_str}
use Rattle.epx_types.specs.declared.op.Op.{Op}
use Rattle.epx_types.specs.declared.op.Op.TheVariants as op
use Rattle.epx_lines.specs.Elements.{signed, elements, each_of_at_most}

-- the text, if it may be a key: if it has 1 to 64 bytes
abbrev pub key_from : List ℕ → Option (List ℕ)
key_from text = if nat_lt 0 (length text) && nat_le (length text) 64 then Some text else None

-- the bytes of a JSON string of 1 to 64 bytes; None for any other JSON value
unfoldable pub key_of : Data → Option (List ℕ)
key_of d = option_and_then key_from (as_str d)

-- a value of the store: absence for null, or a number of 64 signed bits; None for any other JSON
-- value
unfoldable pub value_or_null : Data → Option (Option ℤ)
value_or_null null = Some None
value_or_null d = option_map Some (signed d)

-- the operation of this name on the key: `get` or `del`; None for any other name
unfoldable pub op_with_key : List ℕ → List ℕ → Option Op
op_with_key name k =
    if bytes_eq name (codes "get") then Some (op.Get k) else
    (if bytes_eq name (codes "del") then Some (op.Del k) else None)

-- the operation of this name on the key, with the argument d: a number for `put`, `add` and
-- `floor`, a number or null for `is`, and a key for `copy`; None for any other name or argument
unfoldable pub op_with_value : List ℕ → List ℕ → Data → Option Op
op_with_value name k d =
    if bytes_eq name (codes "put") then option_map (op.Put k) (signed d) else
    (if bytes_eq name (codes "add") then option_map (op.Add k) (signed d) else
    (if bytes_eq name (codes "is") then option_map (op.Is k) (value_or_null d) else
    (if bytes_eq name (codes "floor") then option_map (op.Floor k) (signed d) else
    (if bytes_eq name (codes "copy") then option_map (op.Copy k) (key_of d) else None))))

-- the operation of a list of its name, its key and, if it has one, its argument; None for any other
-- list
abbrev pub op_of_list : List Data → Option Op
op_of_list (n ∷ k ∷ []) = option_and_then (λ name. option_and_then (op_with_key name) (key_of k))
    (as_str n)
op_of_list (n ∷ k ∷ d ∷ []) = option_and_then
    (λ name. option_and_then (λ key. op_with_value name key d) (key_of k)) (as_str n)
op_of_list _ = None

-- the operation that a JSON array `[name,key]` or `[name,key,d]` is; None for any other value
unfoldable pub op_of : Data → Option Op
op_of d = option_and_then op_of_list (elements d)

-- the operations of a JSON array that has at most 64 elements, all of them operations; None for any
-- other value
unfoldable pub ops_of : Data → Option (List Op)
ops_of d = each_of_at_most 64 op_of d
