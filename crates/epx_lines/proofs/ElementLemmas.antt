-- A loop over the elements of a parsed array, and what the definitions read from them.
use Rattle.std.proofs.Common.{◌≡◌, ℕ, suc, ◌+◌, ◌<◌, ◌≤◌, List, [], ◌∷◌, ◌++◌, length, get_or, drop}
use Rattle.std.proofs.Common.{Option, Some, None, option_map, option_and_then, refl, sym, ap, ◌∙◌}
use Rattle.std.proofs.Common.{arith}
use Rattle.epx_types.proofs.Common.{nat_tests, append_assoc, drop_more}
use Rattle.epx_types.specs.declared.id.Id.{Id}
use Rattle.epx_types.specs.declared.op.Op.{Op}
use Rattle.serde_json.specs.Data.{Data}
use Rattle.serde_json.specs.Find.{as_array}
use Rattle.serde_json.specs.View.{view, items_view}
use Rattle.serde_json.specs.declared.value.Value.{Value}
use Rattle.epx_lines.specs.Elements.{list_of, every, at_most, each_of_at_most}
use Rattle.epx_lines.specs.DependencyList.{id_of, id_of_pair, deps_of}
use Rattle.epx_lines.specs.OperationList.{op_of, op_of_list, ops_of}

-- ---- an array's elements are those of the vector

pub length-list_of : (vs : List Value) → length (list_of (items_view vs)) ≡ length vs
length-list_of [] = refl
length-list_of (v ∷ vs) = ap suc (length-list_of vs)

-- ---- one more element is read

joined : {B : Type 0} (done : List B) (y : B) (rest : Option (List B))
    → option_map (λ more. done ++ more) (option_map (λ ys. y ∷ ys) rest)
    ≡ option_map (λ more. (done ++ y ∷ []) ++ more) rest
joined done y None = refl
joined done y (Some ys) = ap Some (sym (append_assoc done (y ∷ []) ys))

pub every-one_more : {A B : Type 0} (f : A → Option B) (xs : List A) (i : ℕ) (x : A) (y : B)
    (done : List B) (whole : Option (List B)) → i < length xs → x ≡ get_or xs i x → f x ≡ Some y
    → whole ≡ option_map (λ more. done ++ more) (every f (drop i xs))
    → whole ≡ option_map (λ more. (done ++ y ∷ []) ++ more) (every f (drop (i + 1) xs))
every-one_more f xs i x y done whole l at is e =
    e ∙ ap (λ rest. option_map (λ more. done ++ more) (every f rest))
    (drop_more xs i x l ∙ ap (λ z. z ∷ drop (i + 1) xs) (sym at))
    ∙ ap (λ o. option_map (λ more. done ++ more)
    (option_and_then (λ z. option_map (λ ys. z ∷ ys) (every f (drop (i + 1) xs))) o)) is
    ∙ joined done y (every f (drop (i + 1) xs))

-- ---- lists of the wrong length are neither a pair nor an operation

no_pair : (vs : List Value) → length vs < 2 → id_of_pair (list_of (items_view vs)) ≡ None
no_pair [] l = refl
no_pair (a ∷ []) l = refl
no_pair (a ∷ b ∷ vs) l = absurd (omega arith)

no_pair_of_more : (vs : List Value) → 3 ≤ length vs → id_of_pair (list_of (items_view vs)) ≡ None
no_pair_of_more [] l = absurd (omega arith)
no_pair_of_more (a ∷ []) l = absurd (omega arith)
no_pair_of_more (a ∷ b ∷ []) l = absurd (omega arith)
no_pair_of_more (a ∷ b ∷ c ∷ vs) l = refl

pub id_of-short : (d : Data) (vs : List Value) → Some (items_view vs) ≡ as_array d → length vs < 2
    → None ≡ id_of d
unfolding id_of
id_of-short d vs e l = rw (← e) (sym (no_pair vs l))

pub id_of-long : (d : Data) (vs : List Value) → Some (items_view vs) ≡ as_array d → 3 ≤ length vs
    → None ≡ id_of d
unfolding id_of
id_of-long d vs e l = rw (← e) (sym (no_pair_of_more vs l))

no_op : (vs : List Value) → length vs < 2 → op_of_list (list_of (items_view vs)) ≡ None
no_op [] l = refl
no_op (a ∷ []) l = refl
no_op (a ∷ b ∷ vs) l = absurd (omega arith)

op_of_list-too_long : (vs : List Value) → 4 ≤ length vs
    → op_of_list (list_of (items_view vs)) ≡ None
op_of_list-too_long [] l = absurd (omega arith)
op_of_list-too_long (a ∷ []) l = absurd (omega arith)
op_of_list-too_long (a ∷ b ∷ []) l = absurd (omega arith)
op_of_list-too_long (a ∷ b ∷ c ∷ []) l = absurd (omega arith)
op_of_list-too_long (a ∷ b ∷ c ∷ e ∷ vs) l = refl

pub op_of-short : (d : Data) (vs : List Value) → Some (items_view vs) ≡ as_array d → length vs < 2
    → None ≡ op_of d
unfolding op_of
op_of-short d vs e l = rw (← e) (sym (no_op vs l))

pub op_of-long : (d : Data) (vs : List Value) → Some (items_view vs) ≡ as_array d → 4 ≤ length vs
    → None ≡ op_of d
unfolding op_of
op_of-long d vs e l = rw (← e) (sym (op_of_list-too_long vs l))

-- ---- arrays with too many elements, and arrays with few enough

pub at_most-within : {A : Type 0} (n : ℕ) (xs : List A) → length xs ≤ n → at_most n xs ≡ Some xs
at_most-within n xs l = grind (arith, nat_tests)

at_most-past : {A : Type 0} (n : ℕ) (xs : List A) → n < length xs → at_most n xs ≡ None
at_most-past n xs l = grind (arith, nat_tests)

every-list_of : {B : Type 0} (f : Data → Option B) (vs : List Value)
    → every f (list_of (items_view vs)) ≡ every (λ v. f (view v)) vs
every-list_of f [] = refl
every-list_of f (v ∷ vs) =
    ap (λ o. option_and_then (λ y. option_map (λ ys. y ∷ ys) o) (f (view v))) (every-list_of f vs)

some_elements : {B : Type 0} (f : Data → Option B) (n : ℕ) (vs : List Value) → length vs ≤ n
    → option_and_then (every f) (at_most n (list_of (items_view vs))) ≡ every (λ v. f (view v)) vs
some_elements f n vs l = ap (option_and_then (every f))
    (at_most-within n _ (omega (arith, length-list_of vs))) ∙ every-list_of f vs

too_many : {B : Type 0} (f : Data → Option B) (n : ℕ) (vs : List Value) → n < length vs
    → option_and_then (every f) (at_most n (list_of (items_view vs))) ≡ None
too_many f n vs l = ap (option_and_then (every f))
    (at_most-past n _ (omega (arith, length-list_of vs)))

pub deps_of-many : (self : Id) (d : Data) (vs : List Value) → Some (items_view vs) ≡ as_array d
    → 256 < length vs → None ≡ deps_of self d
unfolding deps_of
deps_of-many self d vs e l = rw (← e, too_many id_of 256 vs l)

pub ops_of-too_many : (d : Data) (vs : List Value) → Some (items_view vs) ≡ as_array d
    → 64 < length vs → None ≡ ops_of d
unfolding ops_of
ops_of-too_many d vs e l = rw (← e, too_many op_of 64 vs l)

pub ops_of-some : (d : Data) (vs : List Value) → Some (items_view vs) ≡ as_array d → length vs ≤ 64
    → ops_of d ≡ every (λ v. op_of (view v)) vs
unfolding ops_of
ops_of-some d vs e l = rw (← e) (some_elements op_of 64 vs l)

same_option : {A : Type 0} (o : Option A) → o ≡ option_map (λ x. x) o
same_option None = refl
same_option (Some x) = refl

-- at the start of a loop, no element has been read
pub ops_of-begin : (d : Data) (vs items : List Value) (ops : List Op)
    → Some (items_view vs) ≡ as_array d → length vs ≤ 64 → items ≡ vs → ops ≡ []
    → ops_of d ≡ option_map (λ more. ops ++ more) (every (λ v. op_of (view v)) (drop 0 items))
ops_of-begin d vs items ops e l same none = rw (same, none) (ops_of-some d vs e l ∙ same_option _)

pub each_of_at_most-begin : (d : Data) (vs items : List Value) (ids : List Id)
    → Some (items_view vs) ≡ as_array d → length vs ≤ 256 → items ≡ vs → ids ≡ []
    → each_of_at_most 256 id_of d ≡ option_map (λ more. ids ++ more)
    (every (λ v. id_of (view v)) (drop 0 items))
each_of_at_most-begin d vs items ids e l same none =
    rw (same, none, ← e) (some_elements id_of 256 vs l ∙ same_option _)

-- ---- a loop: `ahead` takes the results of the rest, `later` all of them but the first

module _ {A B C : Type 0} (f : A → Option B) where
  heads : (o : Option (List B)) (y : B) (ahead later : List B → C)
      → ((ys : List B) → ahead (y ∷ ys) ≡ later ys)
      → option_map ahead (option_map (λ ys. y ∷ ys) o) ≡ option_map later o
  heads None y ahead later same = refl
  heads (Some ys) y ahead later same = ap Some (same ys)
