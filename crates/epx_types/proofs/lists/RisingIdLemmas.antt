-- Rising Ids, by neighbours and by pairs of positions.
use Rattle.std.proofs.Common.{◌≡◌, ◌<◌, ◌+◌, ℕ, suc, List, [], ◌∷◌, length, get_or, map, All}
use Rattle.std.proofs.Common.{AllPairs, Contains, Some, slice_get, ◌≢◌, ◌++◌, subst, inl, inr}
use Rattle.std.proofs.Common.{arith}
use Rattle.std.specs.List.{AllAdjacentBelow}
use Rattle.std.proofs.lemmas.Bool.{cases_lt}
use Rattle.std.proofs.lemmas.List.Elements.{All-nil, All-cons}
use Rattle.std.proofs.lemmas.List.Kept.{AllPairs-cons}
use Rattle.epx_types.specs.declared.id.Id.{Id}
use Rattle.epx_types.specs.Ids.{Below, BelowAll, IsRising}
use Rattle.epx_types.proofs.lists.MembershipLemmas.{Contains-nil, Contains-head, Contains-cons}
use Rattle.epx_types.proofs.lists.MembershipLemmas.{Contains-cons_cases}
use Rattle.epx_types.proofs.lists.ListPositionLemmas.{slice_get-map, AllPairs-slice_get}
use Rattle.epx_types.proofs.lists.ListPositionLemmas.{AllPairs-from_slice_get, AllPairs-head}
use Rattle.epx_types.proofs.lists.ListPositionLemmas.{AllPairs-tail, AllPairs-append}
use Rattle.epx_types.proofs.lists.TotalOrderLemmas.{is_lt-irrefl, is_lt-trans, AllPairs-is_unique}
use Rattle.epx_types.proofs.lists.ComparisonLemmas.{id_cmp-IsTotalOrder}

pub BelowAll-trans : (x y : Id) (zs : List Id) → Below x y → BelowAll y zs → BelowAll x zs
BelowAll-trans x y [] l h = tt
BelowAll-trans x y (z ∷ zs) l h =
    (is_lt-trans id_cmp-IsTotalOrder x y z l h.0, BelowAll-trans x y zs l h.1)

All-from_BelowAll : (x : Id) (ys : List Id) → BelowAll x ys → All (Below x) ys
All-from_BelowAll x [] h = All-nil (Below x)
All-from_BelowAll x (y ∷ ys) h = All-cons (Below x) y ys h.0 (All-from_BelowAll x ys h.1)

-- each Id is below all later ones, by positions
pub AllPairs-from_IsRising : (xs : List Id) → IsRising xs → AllPairs Below xs
AllPairs-from_IsRising [] h = λ i j d l k. absurd (omega arith)
AllPairs-from_IsRising (x ∷ xs) h =
    AllPairs-cons Below x xs (All-from_BelowAll x xs h.0) (AllPairs-from_IsRising xs h.1)

-- an Id is below each of a list
pub BelowAll-from_each : (x : Id) (ys : List Id) → ((y : Id) → Contains ys y → Below x y)
    → BelowAll x ys
BelowAll-from_each x [] h = tt
BelowAll-from_each x (y ∷ ys) h =
    (h y (Contains-head y ys), BelowAll-from_each x ys (λ z c. h z (Contains-cons y ys z c)))

pub IsRising-from_AllPairs : (xs : List Id) → AllPairs Below xs → IsRising xs
IsRising-from_AllPairs [] h = tt
IsRising-from_AllPairs (x ∷ xs) h = (
  BelowAll-from_each x xs (λ y c. AllPairs-head Below x xs y h c),
  IsRising-from_AllPairs xs (AllPairs-tail Below x xs h),
)

-- if the Ids of some elements rise, each element has a lower Id than all later ones
pub AllPairs-from_rising_ids : {X : Type 0} (id_of : X → Id) (xs : List X)
    → IsRising (map id_of xs) → AllPairs (λ a b. Below (id_of a) (id_of b)) xs
AllPairs-from_rising_ids id_of xs h =
    AllPairs-from_slice_get (λ a b. Below (id_of a) (id_of b)) xs (λ i j a b l p q.
    AllPairs-slice_get Below (map id_of xs) (AllPairs-from_IsRising (map id_of xs) h) i j (id_of a)
    (id_of b) l (slice_get-map id_of xs i a p) (slice_get-map id_of xs j b q))

-- if each Id of a list is below the next, so it is in the tail
neighbours_tail : (x : Id) (xs : List Id) → AllAdjacentBelow Below (x ∷ xs) (length (x ∷ xs))
    → AllAdjacentBelow Below xs (length xs)
neighbours_tail x xs h k d l =
    let e : suc k + 1 ≡ suc (k + 1) = omega arith in
    let P : ℕ → Type 0 = λ n. Below (get_or xs k d) (get_or (x ∷ xs) n d) in
    subst P e (h (suc k) d (omega arith))

-- a list rises if each Id is below the next
pub IsRising-from_neighbours : (xs : List Id) → AllAdjacentBelow Below xs (length xs) → IsRising xs
IsRising-from_neighbours [] h = tt
IsRising-from_neighbours (x ∷ []) h = (tt, tt)
IsRising-from_neighbours (x ∷ y ∷ ys) h =
    let rest = IsRising-from_neighbours (y ∷ ys) (neighbours_tail x (y ∷ ys) h) in
    let first : Below x y = h 0 x (omega arith) in
    ((first, BelowAll-trans x y ys first rest.0), rest)

-- a list is not rising if some pair of positions does not rise
pub IsRising-not : (xs : List Id) (i j : ℕ) (d : Id) → i < j → j < length xs
    → ¬ Below (get_or xs i d) (get_or xs j d) → ¬ IsRising xs
IsRising-not xs i j d l k level rising = level (AllPairs-from_IsRising xs rising i j d l k)

-- ---- one more Id, and positions

-- an Id at the end of lower ones
pub IsRising-push : (xs : List Id) (x : Id) → IsRising xs → ((y : Id) → Contains xs y → Below y x)
    → IsRising (xs ++ x ∷ [])
IsRising-push xs x rising below =
    IsRising-from_AllPairs (xs ++ x ∷ []) (AllPairs-append Below xs (x ∷ [])
    (AllPairs-from_IsRising xs rising) (AllPairs-from_IsRising (x ∷ []) (tt, tt))
    (λ y z h last. elim (Contains-cons_cases x [] z last) [
      | inl same ↦ subst (Below y) same (below y h)
      | inr none ↦ absurd (Contains-nil z none)
    ]))

-- the lower of two positions has the lower Id
pub Below-by_position : (xs : List Id) → IsRising xs → (i j : ℕ) (x y : Id)
    → slice_get xs i ≡ Some x → slice_get xs j ≡ Some y → i < j → Below x y
Below-by_position xs rising i j x y p q l =
    AllPairs-slice_get Below xs (AllPairs-from_IsRising xs rising) i j x y l p q

-- an Id has one position
pub slice_get-rising_is_unique : (xs : List Id) → IsRising xs → (i j : ℕ) (x : Id)
    → slice_get xs i ≡ Some x → slice_get xs j ≡ Some x → i ≡ j
slice_get-rising_is_unique xs rising i j x p q =
    elim (cases_lt i j) [
      | inl l ↦ absurd
          (is_lt-irrefl id_cmp-IsTotalOrder x (Below-by_position xs rising i j x x p q l))
      | inr m ↦ elim (cases_lt j i) [
        | inl l ↦ absurd
            (is_lt-irrefl id_cmp-IsTotalOrder x (Below-by_position xs rising j i x x q p l))
        | inr n ↦ omega arith
      ]
    ]

-- no Id is there twice
pub AllPairs-rising_distinct : (xs : List Id) → IsRising xs → AllPairs (λ x y. x ≢ y) xs
AllPairs-rising_distinct xs rising =
    AllPairs-from_slice_get (λ x y. x ≢ y) xs (λ i j x y l p q same.
    is_lt-irrefl id_cmp-IsTotalOrder y (subst (λ (z : Id). Below z y) same
    (Below-by_position xs rising i j x y p q l)))

-- a rising list is determined by which Ids it has
pub IsRising-is_unique : (xs ys : List Id) → IsRising xs → IsRising ys
    → ((x : Id) → Contains xs x → Contains ys x) → ((x : Id) → Contains ys x → Contains xs x)
    → xs ≡ ys
IsRising-is_unique xs ys p q there back =
    AllPairs-is_unique Below (is_lt-irrefl id_cmp-IsTotalOrder) (is_lt-trans id_cmp-IsTotalOrder) xs
    ys
    (AllPairs-from_IsRising xs p) (AllPairs-from_IsRising ys q) there back
