-- The elements of a parsed array, and what the definitions say about them.
use Rattle.std.proofs.Common.{◌≡◌, ◌<◌, ◌≤◌, ℤ, Bool, true, false, ◌&&◌, nat_le, List, [], ◌∷◌}
use Rattle.std.proofs.Common.{length, drop, cond, Option, Some, None, option_map, option_and_then}
use Rattle.std.proofs.Common.{refl, ap, is_some, arith}
use Rattle.epx_types.proofs.Common.{nat_tests, list_all}
use Rattle.serde_json.specs.Data.{Data}
use Rattle.serde_json.specs.Find.{as_array}
use Rattle.serde_json.specs.View.{view, items_view}
use Rattle.serde_json.specs.declared.value.Value.{Value}
use Rattle.epx_lines.specs.Elements.{list_of, elements, at_most, every, each_of_at_most}
use Rattle.epx_lines.specs.OperationList.{value_or_null}
use Rattle.epx_lines.proofs.ElementLemmas.{length-list_of}
use Rattle.epx_report.specs.Forms.{are_few_values, is_value_list}

list_all-list_of : (f : Data → Bool) (vs : List Value)
    → list_all f (list_of (items_view vs)) ≡ list_all (λ v. f (view v)) vs
list_all-list_of f [] = refl
list_all-list_of f (v ∷ vs) = ap (λ t. f (view v) && t) (list_all-list_of f vs)

-- an element is a number or null
abbrev pub is_value_or_null : Value → Bool
is_value_or_null v = is_some (value_or_null (view v))

pub is_value_list-many : (d : Data) (vs : List Value) → Some (items_view vs) ≡ as_array d
    → 64 < length vs → false ≡ is_value_list d
unfolding is_value_list
is_value_list-many d vs is many = let past : nat_le (length vs) 64 ≡ false =
    grind (arith, nat_tests) in rw (← is, length-list_of vs, past) refl

-- the array has few enough elements, so the result depends on each of them
pub is_value_list-begin : (d : Data) (vs items : List Value) → Some (items_view vs) ≡ as_array d
    → length vs ≤ 64 → items ≡ vs → is_value_list d ≡ list_all is_value_or_null (drop 0 items)
unfolding is_value_list
is_value_list-begin d vs items is few same =
    let within : nat_le (length vs) 64 ≡ true = grind (arith, nat_tests) in
    rw (same, ← is, length-list_of vs, within)
    (list_all-list_of (λ e. is_some (value_or_null e)) vs)

-- ---- a list whose values were all read

all_values_or_null_at : (o : Option (Option ℤ)) (more : Option (List (Option ℤ))) (rest : Bool)
    (vs : List (Option ℤ)) → ((ws : List (Option ℤ)) → more ≡ Some ws → rest ≡ true)
    → option_and_then (λ y. option_map (λ ys. y ∷ ys) more) o ≡ Some vs
    → (is_some o && rest) ≡ true
all_values_or_null_at None more rest vs h e = absurd (cc e)
all_values_or_null_at (Some y) None rest vs h e = absurd (cc e)
all_values_or_null_at (Some y) (Some ws) rest vs h e = h ws refl

all_values_or_null : (ds : List Data) (vs : List (Option ℤ)) → every value_or_null ds ≡ Some vs
    → list_all (λ d. is_some (value_or_null d)) ds ≡ true
all_values_or_null [] vs e = refl
all_values_or_null (d ∷ ds) vs e =
    all_values_or_null_at (value_or_null d) (every value_or_null ds) _ vs (all_values_or_null ds) e

are_few_values_at : (t : Bool) (ds : List Data) (vs : List (Option ℤ)) → nat_le (length ds) 64 ≡ t
    → option_and_then (every value_or_null) (cond t (Some ds) None) ≡ Some vs
    → are_few_values (Some ds) ≡ true
are_few_values_at true ds vs is e = rw is (all_values_or_null ds vs e)
are_few_values_at false ds vs is e = absurd (cc e)

are_few_values-read : (o : Option (List Data)) (vs : List (Option ℤ))
    → option_and_then (every value_or_null) (option_and_then (at_most 64) o) ≡ Some vs
    → are_few_values o ≡ true
are_few_values-read None vs e = absurd (cc e)
are_few_values-read (Some ds) vs e = are_few_values_at (nat_le (length ds) 64) ds vs refl e

pub is_value_list-read : (d : Data) (vs : List (Option ℤ))
    → each_of_at_most 64 value_or_null d ≡ Some vs → is_value_list d ≡ true
unfolding is_value_list
is_value_list-read d vs e = are_few_values-read (elements d) vs e
