-- The elements of a parsed array, and what the definitions read from them.
use Rattle.std.proofs.Common.{◌≡◌, ◌≢◌, ◌<◌, ◌≤◌, ℤ, List, [], ◌∷◌, ◌++◌, length, drop}
use Rattle.std.proofs.Common.{Option, Some, None, option_map, option_and_then, refl, sym, ap, ◌∙◌}
use Rattle.std.proofs.Common.{arith}
use Rattle.epx_types.proofs.Common.{nat_tests}
use Rattle.serde_json.specs.Data.{Data}
use Rattle.serde_json.specs.Find.{as_array}
use Rattle.serde_json.specs.View.{view, items_view}
use Rattle.serde_json.specs.declared.value.Value.{Value}
use Rattle.epx_lines.specs.Elements.{list_of, every, at_most}
use Rattle.epx_lines.specs.OperationList.{value_or_null}
use Rattle.epx_lines.proofs.ElementLemmas.{length-list_of, at_most-within}
use Rattle.epx_verify.specs.SaidLines.{values_of, said_by_list, said_by}

-- ---- a list of values

values-list_of : (vs : List Value)
    → every value_or_null (list_of (items_view vs)) ≡ every (λ v. value_or_null (view v)) vs
values-list_of [] = refl
values-list_of (v ∷ vs) =
    ap (λ o. option_and_then (λ y. option_map (λ ys. y ∷ ys) o) (value_or_null (view v)))
    (values-list_of vs)

past : (vs : List Value) → 64 < length vs → at_most 64 (list_of (items_view vs)) ≡ None
past vs l =
    let long : 64 < length (list_of (items_view vs)) = omega (arith, length-list_of vs, l) in
    grind (arith, nat_tests)

pub values_of-many : (d : Data) (vs : List Value) → Some (items_view vs) ≡ as_array d
    → 64 < length vs → None ≡ values_of d
unfolding values_of
values_of-many d vs is l = rw (← is, past vs l) refl

same_option : {A : Type 0} (o : Option A) → o ≡ option_map (λ x. x) o
same_option None = refl
same_option (Some x) = refl

-- at the start of a loop, no element has been read
pub values_of-begin : (d : Data) (vs items : List Value) (values : List (Option ℤ))
    → Some (items_view vs) ≡ as_array d → length vs ≤ 64 → items ≡ vs → values ≡ []
    → values_of d ≡ option_map (λ more. values ++ more)
    (every (λ v. value_or_null (view v)) (drop 0 items))
unfolding values_of
values_of-begin d vs items values is l same none =
    let short : length (list_of (items_view vs)) ≤ 64 = omega (arith, length-list_of vs, l) in
    rw (same, none, ← is)
    (ap (option_and_then (every value_or_null)) (at_most-within 64 (list_of (items_view vs)) short)
    ∙ values-list_of vs ∙ same_option _)

-- ---- arrays of a length that no line has

fewer_than_three : (vs : List Value) → length vs < 3
    → said_by_list (list_of (items_view vs)) ≡ None
fewer_than_three [] l = refl
fewer_than_three (a ∷ []) l = refl
fewer_than_three (a ∷ b ∷ []) l = refl
fewer_than_three (a ∷ b ∷ c ∷ vs) l = absurd (omega arith)

neither : (vs : List Value) → length vs ≢ 3 → length vs ≢ 5
    → said_by_list (list_of (items_view vs)) ≡ None
neither [] three five = refl
neither (a ∷ []) three five = refl
neither (a ∷ b ∷ []) three five = refl
neither (a ∷ b ∷ c ∷ []) three five = absurd (three refl)
neither (a ∷ b ∷ c ∷ d ∷ []) three five = refl
neither (a ∷ b ∷ c ∷ d ∷ e ∷ []) three five = absurd (five refl)
neither (a ∷ b ∷ c ∷ d ∷ e ∷ f ∷ vs) three five = refl

module _ (d : Data) (vs : List Value) (is : Some (items_view vs) ≡ as_array d) where
  pub said_by-short : length vs < 3 → None ≡ said_by d
  unfolding said_by
  said_by-short l = rw (← is) (sym (fewer_than_three vs l))

  pub said_by-neither : length vs ≢ 3 → length vs ≢ 5 → None ≡ said_by d
  unfolding said_by
  said_by-neither three five = rw (← is) (sym (neither vs three five))
