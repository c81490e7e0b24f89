-- Positions of a list: the elements there, also through `map`, and properties of pairs of
-- positions.
use Rattle.std.proofs.Common.{◌≡◌, ◌<◌, ℕ, zero, suc, List, [], ◌∷◌, ◌++◌, get_or, slice_get, map}
use Rattle.std.proofs.Common.{Contains, All, AllPairs, Some, refl, ap, ◌∙◌, subst, subst₂, inl}
use Rattle.std.proofs.Common.{inr, arith}
use Rattle.std.proofs.lemmas.Bool.{cases_lt}
use Rattle.std.proofs.lemmas.List.Kept.{AllPairs-cons}
use Rattle.std.proofs.lemmas.List.Elements.{All-contains_itself, All-weaker, Contains-append_cases}
use Rattle.std.proofs.lemmas.Option.{slice_get_within, slice_get-get_or, get_or_from_slice_get}
use Rattle.epx_types.proofs.lists.MembershipLemmas.{Contains-head, Contains-cons}

-- an element is at some position
pub slice_get-from_Contains : {X : Type 0} (xs : List X) (x : X) → Contains xs x
    → (i : ℕ) × (slice_get xs i ≡ Some x)
slice_get-from_Contains xs x h = (h.0, slice_get-get_or xs h.0 x h.1 ∙ ap Some h.2)

-- the value at a position is an element
pub Contains-slice_get : {X : Type 0} (xs : List X) (i : ℕ) (x : X) → slice_get xs i ≡ Some x
    → Contains xs x
Contains-slice_get xs i x e = (i, slice_get_within xs i x e, get_or_from_slice_get xs i x x e)

-- the value at a position of the image
pub slice_get-map : {X Y : Type 0} (f : X → Y) (xs : List X) (i : ℕ) (x : X)
    → slice_get xs i ≡ Some x → slice_get (map f xs) i ≡ Some (f x)
slice_get-map f [] i x e = absurd (cc e)
slice_get-map f (y ∷ xs) zero x e = let same : y ≡ x = cc e in cc
slice_get-map f (y ∷ xs) (suc i) x e = slice_get-map f xs i x e

-- the value at a position of the image comes from the value at that position
pub slice_get-from_map : {X Y : Type 0} (f : X → Y) (xs : List X) (i : ℕ) (y : Y)
    → slice_get (map f xs) i ≡ Some y → (x : X) × (slice_get xs i ≡ Some x) × (f x ≡ y)
slice_get-from_map f [] i y e = absurd (cc e)
slice_get-from_map f (x ∷ xs) zero y e = (x, refl, cc e)
slice_get-from_map f (x ∷ xs) (suc i) y e = slice_get-from_map f xs i y e

-- ---- pairs of positions

-- a property of pairs holds of the values at two positions
pub AllPairs-slice_get : {X : Type 0} (R : X → X → Type 0) (xs : List X) → AllPairs R xs
    → (i j : ℕ) (x y : X) → i < j → slice_get xs i ≡ Some x → slice_get xs j ≡ Some y → R x y
AllPairs-slice_get R xs h i j x y l p q =
    subst₂ R (get_or_from_slice_get xs i x x p) (get_or_from_slice_get xs j y x q)
    (h i j x l (slice_get_within xs j y q))

-- the converse
pub AllPairs-from_slice_get : {X : Type 0} (R : X → X → Type 0) (xs : List X)
    → ((i j : ℕ) (x y : X) → i < j → slice_get xs i ≡ Some x → slice_get xs j ≡ Some y → R x y)
    → AllPairs R xs
AllPairs-from_slice_get R xs h i j d l k =
    h i j (get_or xs i d) (get_or xs j d) l (slice_get-get_or xs i d (omega arith))
    (slice_get-get_or xs j d k)

-- it holds of the first element and another
pub AllPairs-head : {X : Type 0} (R : X → X → Type 0) (x : X) (xs : List X) (y : X)
    → AllPairs R (x ∷ xs) → Contains xs y → R x y
AllPairs-head R x xs y h c = subst (R x) c.2 (h 0 (suc c.0) y (omega arith) (omega arith))

-- it holds of the first element and all others
pub AllPairs-first : {X : Type 0} (R : X → X → Type 0) (x : X) (xs : List X) → AllPairs R (x ∷ xs)
    → All (R x) xs
AllPairs-first R x xs h k d l = h 0 (suc k) d (omega arith) (omega arith)

-- it holds of pairs of the rest
pub AllPairs-tail : {X : Type 0} (R : X → X → Type 0) (x : X) (xs : List X) → AllPairs R (x ∷ xs)
    → AllPairs R xs
AllPairs-tail R x xs h i j d l k = h (suc i) (suc j) d (omega arith) (omega arith)

-- it holds of all pairs if it holds of the first element with each other, and of the rest
pub AllPairs-from_parts : {X : Type 0} (R : X → X → Type 0) (x : X) (xs : List X)
    → ((y : X) → Contains xs y → R x y) → AllPairs R xs → AllPairs R (x ∷ xs)
AllPairs-from_parts R x xs first rest =
    AllPairs-cons R x xs (All-weaker (Contains xs) (R x) first xs (All-contains_itself xs)) rest

-- it holds of two concatenated lists if it holds of each, and between them
pub AllPairs-append : {X : Type 0} (R : X → X → Type 0) (xs ys : List X) → AllPairs R xs
    → AllPairs R ys → ((x y : X) → Contains xs x → Contains ys y → R x y) → AllPairs R (xs ++ ys)
AllPairs-append R [] ys h k across = k
AllPairs-append R (x ∷ xs) ys h k across =
    AllPairs-from_parts R x (xs ++ ys)
    (λ y c. elim (Contains-append_cases xs ys y c) [
      | inl same ↦ AllPairs-head R x xs y h same
      | inr other ↦ across x y (Contains-head x xs) other
    ])
    (AllPairs-append R xs ys (AllPairs-tail R x xs h) k
    (λ v w c d. across v w (Contains-cons x xs v c) d))

-- two elements of which neither is before the other are equal
pub AllPairs-same : {X : Type 0} (R : X → X → Type 0) (xs : List X) → AllPairs R xs → (x y : X)
    → Contains xs x → Contains xs y → ¬ R x y → ¬ R y x → x ≡ y
AllPairs-same {X} R xs h x y in_x in_y p q = by i.0 j.0 i.1 j.1 where
  i : (k : ℕ) × (slice_get xs k ≡ Some x)
  i = slice_get-from_Contains xs x in_x

  j : (k : ℕ) × (slice_get xs k ≡ Some y)
  j = slice_get-from_Contains xs y in_y

  by : (k l : ℕ) → slice_get xs k ≡ Some x → slice_get xs l ≡ Some y → x ≡ y
  by k l at_x at_y =
      elim (cases_lt k l) [
        | inl less ↦ absurd (p (AllPairs-slice_get R xs h k l x y less at_x at_y))
        | inr upto ↦ elim (cases_lt l k) [
          | inl less ↦ absurd (q (AllPairs-slice_get R xs h l k y x less at_y at_x))
          | inr other ↦ let e : k ≡ l = omega arith in cc
        ]
      ]
