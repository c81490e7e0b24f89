-- The parts that are read from a line make a well-formed entry.
use Rattle.std.proofs.Common.{◌≡◌, ℕ, suc, ◌+◌, ◌≤◌, Bool, true, false, cond, not, nat_le, Ordering}
use Rattle.std.proofs.Common.{Less, Equal, Greater, List, [], ◌∷◌, length, get_or, filter, fold}
use Rattle.std.proofs.Common.{Contains, Option, Some, None, option_map, option_and_then, refl, sym}
use Rattle.std.proofs.Common.{ap, ◌∙◌, arith}
use Rattle.epx_types.proofs.Common.{false≢true, nat_tests, All-from_recursion, insert_key}
use Rattle.epx_types.proofs.Common.{AllByRecursion, is_lt, is_eq, match_ordering, ordering_reverse}
use Rattle.epx_types.proofs.Common.{id_cmp, Below, BelowAll, IsRising, IsWellFormed}
use Rattle.epx_types.proofs.Common.{id_cmp-IsTotalOrder}
use Rattle.epx_types.proofs.Common.{BelowAll-trans}
use Rattle.epx_types.specs.declared.id.Id.{Id}
use Rattle.epx_types.specs.declared.op.Op.{Op}
use Rattle.std.proofs.lemmas.Cmp.{tied_itself}
use Rattle.serde_json.specs.Data.{Data}
use Rattle.epx_lines.specs.Elements.{every, elements, at_most}
use Rattle.epx_lines.specs.DependencyList.{id_of, is_other, rising_others, deps_of}
use Rattle.epx_lines.specs.OperationList.{op_of, ops_of}

-- ---- an insertion keeps the list rising

Below-turned : (x y : Id) → id_cmp x y ≡ Greater → Below y x
Below-turned x y e = ap is_lt (id_cmp-IsTotalOrder.antisymm y x ∙ ap ordering_reverse e)

BelowAll-at : (o : Ordering) (x k y : Id) (ys rest : List Id) → Below x k → BelowAll x (y ∷ ys)
    → BelowAll x rest → BelowAll x (match_ordering o (k ∷ y ∷ ys) (y ∷ ys) (y ∷ rest))
BelowAll-at Less x k y ys rest p h r = (p, h)
BelowAll-at Equal x k y ys rest p h r = h
BelowAll-at Greater x k y ys rest p h r = (h.0, r)

BelowAll-insert : (x k : Id) (ys : List Id) → Below x k → BelowAll x ys
    → BelowAll x (insert_key id_cmp ys k)
BelowAll-insert x k [] p h = (p, tt)
BelowAll-insert x k (y ∷ ys) p h =
    BelowAll-at (id_cmp k y) x k y ys _ p h (BelowAll-insert x k ys p h.1)

IsRising-at : (o : Ordering) (k y : Id) (ys rest : List Id) → id_cmp k y ≡ o → IsRising (y ∷ ys)
    → (Below y k → BelowAll y rest) → IsRising rest
    → IsRising (match_ordering o (k ∷ y ∷ ys) (y ∷ ys) (y ∷ rest))
IsRising-at Less k y ys rest e h below r = let first : Below k y = ap is_lt e in
    ((first, BelowAll-trans k y ys first h.0), h)
IsRising-at Equal k y ys rest e h below r = h
IsRising-at Greater k y ys rest e h below r = (below (Below-turned k y e), r)

pub IsRising-insert : (k : Id) (ys : List Id) → IsRising ys → IsRising (insert_key id_cmp ys k)
IsRising-insert k [] h = (tt, tt)
IsRising-insert k (y ∷ ys) h = IsRising-at (id_cmp k y) k y ys _ refl h
    (λ p. BelowAll-insert y k ys p h.0) (IsRising-insert k ys h.1)

pub IsRising-fold : (found xs : List Id) → IsRising found
    → IsRising (fold (insert_key id_cmp) found xs)
IsRising-fold found [] h = h
IsRising-fold found (x ∷ xs) h =
    IsRising-fold (insert_key id_cmp found x) xs (IsRising-insert x found h)

-- ---- the instance itself is not among the others

AllOthers : Id → List Id → Type 0
AllOthers self xs = AllByRecursion (λ x. is_other self x ≡ true) xs

others-at : (o : Ordering) (self k y : Id) (ys rest : List Id) → is_other self k ≡ true
    → AllOthers self (y ∷ ys) → AllOthers self rest
    → AllOthers self (match_ordering o (k ∷ y ∷ ys) (y ∷ ys) (y ∷ rest))
unfolding AllOthers
others-at Less self k y ys rest p h r = (p, h)
others-at Equal self k y ys rest p h r = h
others-at Greater self k y ys rest p h r = (h.0, r)

others-insert : (self k : Id) (ys : List Id) → is_other self k ≡ true → AllOthers self ys
    → AllOthers self (insert_key id_cmp ys k)
unfolding AllOthers
others-insert self k [] p h = (p, tt)
others-insert self k (y ∷ ys) p h =
    others-at (id_cmp k y) self k y ys _ p h (others-insert self k ys p h.1)

others-fold : (self : Id) (found xs : List Id) → AllOthers self found → AllOthers self xs
    → AllOthers self (fold (insert_key id_cmp) found xs)
unfolding AllOthers
others-fold self found [] h r = h
others-fold self found (x ∷ xs) h r =
    others-fold self (insert_key id_cmp found x) xs (others-insert self x found r.0 h) r.1

others-filter_at : (t : Bool) (self x : Id) (xs : List Id) → is_other self x ≡ t
    → AllOthers self xs → AllOthers self (cond t (x ∷ xs) xs)
unfolding AllOthers
others-filter_at true self x xs e h = (e, h)
others-filter_at false self x xs e h = h

others-filter : (self : Id) (xs : List Id) → AllOthers self (filter (is_other self) xs)
unfolding AllOthers
others-filter self [] = tt
others-filter self (x ∷ xs) = others-filter_at (is_other self x) self x _ refl
    (others-filter self xs)

not_other : (self : Id) → is_other self self ≡ false
not_other self = ap (λ o. not (is_eq o)) (tied_itself id_cmp-IsTotalOrder self)

not_among : (self : Id) (xs : List Id) → AllOthers self xs → ¬ Contains xs self
unfolding AllOthers
not_among self xs h (k, within, is) =
    let other : is_other self (get_or xs k self) ≡ true =
    All-from_recursion (λ x. is_other self x ≡ true) xs h k self within in
    false≢true (sym (not_other self) ∙ ap (is_other self) (sym is) ∙ other)

-- ---- lengths

length-match : (o : Ordering) (k y : Id) (ys rest : List Id) → length rest ≤ length ys + 1
    → length (match_ordering o (k ∷ y ∷ ys) (y ∷ ys) (y ∷ rest)) ≤ length (y ∷ ys) + 1
length-match Less k y ys rest h = omega arith
length-match Equal k y ys rest h = omega arith
length-match Greater k y ys rest h = omega arith

length-insert_key : (k : Id) (ys : List Id) → length (insert_key id_cmp ys k) ≤ length ys + 1
length-insert_key k [] = omega arith
length-insert_key k (y ∷ ys) = length-match (id_cmp k y) k y ys _ (length-insert_key k ys)

length-fold : (found xs : List Id) → length (fold (insert_key id_cmp) found xs)
    ≤ length found + length xs
length-fold found [] = omega arith
length-fold found (x ∷ xs) =
    omega (arith, length-fold (insert_key id_cmp found x) xs, length-insert_key x found)

length-filter_at : (t : Bool) (x : Id) (ys xs : List Id) → length ys ≤ length xs
    → length (cond t (x ∷ ys) ys) ≤ length (x ∷ xs)
length-filter_at true x ys xs h = omega arith
length-filter_at false x ys xs h = omega arith

length-others : (self : Id) (xs : List Id) → length (filter (is_other self) xs) ≤ length xs
length-others self [] = omega arith
length-others self (x ∷ xs) = length-filter_at (is_other self x) x _ xs (length-others self xs)

length-every_at : {B : Type 0} (o : Option B) (r : Option (List B)) (n : ℕ) (ys : List B)
    → ((zs : List B) → r ≡ Some zs → length zs ≡ n)
    → option_and_then (λ y. option_map (λ ys. y ∷ ys) r) o ≡ Some ys → length ys ≡ suc n
length-every_at None r n ys h e = cc
length-every_at (Some y) None n ys h e = cc
length-every_at (Some y) (Some zs) n ys h e = grind (arith, h zs refl)

module _ {A B : Type 0} where
  pub length-every : (f : A → Option B) (xs : List A) (ys : List B) → every f xs ≡ Some ys
      → length ys ≡ length xs
  length-every f [] ys e = grind arith
  length-every f (x ∷ xs) ys e =
      length-every_at (f x) (every f xs) (length xs) ys (length-every f xs) e

  few_at_test : (t : Bool) (f : A → Option B) (n : ℕ) (xs : List A) (ys : List B)
      → nat_le (length xs) n ≡ t → option_and_then (every f) (cond t (Some xs) None) ≡ Some ys
      → length ys ≤ n
  few_at_test true f n xs ys few e = let same = length-every f xs ys e in grind (arith, nat_tests)
  few_at_test false f n xs ys few e = cc

  few : (f : A → Option B) (n : ℕ) (o : Option (List A)) (ys : List B)
      → option_and_then (every f) (option_and_then (at_most n) o) ≡ Some ys → length ys ≤ n
  few f n None ys e = cc
  few f n (Some xs) ys e = few_at_test (nat_le (length xs) n) f n xs ys refl e

-- ---- the parts of an entry

pub length-ops : (o : Option Data) (ops : List Op) → Some ops ≡ option_and_then ops_of o
    → length ops ≤ 64
unfolding ops_of
length-ops None ops e = cc
length-ops (Some d) ops e = few op_of 64 (elements d) ops (sym e)

-- valid dependencies of an entry
pub record AreValidDeps (self : Id) (deps : List Id) : Type 0 where
  pub rising : IsRising deps
  pub not_itself : ¬ Contains deps self
  pub few_deps : length deps ≤ 256

others-nil : (self : Id) → AllOthers self []
unfolding AllOthers
others-nil self = tt

AreValidDeps-rising_others : (self : Id) (ids : List Id) → length ids ≤ 256
    → AreValidDeps self (rising_others self ids)
AreValidDeps-rising_others self ids h = record {
  rising = IsRising-fold [] (filter (is_other self) ids) tt;
  not_itself =
      not_among self _ (others-fold self [] (filter (is_other self) ids) (others-nil self)
      (others-filter self ids));
  few_deps = omega (arith, length-fold [] (filter (is_other self) ids), length-others self ids);
}

AreValidDeps-mapped : (self : Id) (deps : List Id) (o : Option (List Id))
    → ((ids : List Id) → o ≡ Some ids → length ids ≤ 256)
    → Some deps ≡ option_map (rising_others self) o → AreValidDeps self deps
AreValidDeps-mapped self deps None h e = cc
AreValidDeps-mapped self deps (Some ids) h e = let same : deps ≡ rising_others self ids = cc in
    rw same (AreValidDeps-rising_others self ids (h ids refl))

pub AreValidDeps-read : (self : Id) (o : Option Data) (deps : List Id)
    → Some deps ≡ option_and_then (deps_of self) o → AreValidDeps self deps
unfolding deps_of
AreValidDeps-read self None deps e = cc
AreValidDeps-read self (Some d) deps e =
    AreValidDeps-mapped self deps _ (λ ids f. few id_of 256 (elements d) ids f) e

pub IsWellFormed-from_parts : (self : Id) (seq : ℕ) (deps : List Id) (ops : List Op)
    → AreValidDeps self deps → length ops ≤ 64
    → IsWellFormed (record { id = self; seq = seq; deps = deps; ops = ops })
IsWellFormed-from_parts self seq deps ops h l =
    record { rising = h.rising; not_itself = h.not_itself; few_deps = h.few_deps; few_ops = l }
