-- The relation `Before` in two concatenated lists and in a filtered list.
use Rattle.std.proofs.Common.{◌≡◌, ℕ, zero, suc, ◌+◌, Bool, true, List, [], ◌∷◌, ◌++◌, length}
use Rattle.std.proofs.Common.{filter, Contains, Some, slice_get, ap, ◌∙◌, inl, inr, arith}
use Rattle.std.proofs.lemmas.Bool.{cases_Bool}
use Rattle.std.proofs.lemmas.List.Elements.{Contains-append_left, Contains-append_right}
use Rattle.epx_types.specs.LawfulOrders.{Before}
use Rattle.epx_types.proofs.lists.MembershipLemmas.{Contains-nil, Contains-cons_cases}
use Rattle.epx_types.proofs.lists.MembershipLemmas.{Contains-filter}
use Rattle.epx_types.proofs.lists.ListPositionLemmas.{slice_get-from_Contains}
use Rattle.epx_types.proofs.commands.RearrangedListLemmas.{Precedes}
use Rattle.epx_types.proofs.commands.RearrangementLemmas.{Precedes-from_Before}

module _ {X : Type 0} where
  pub Before-from_Precedes : (xs : List X) (x y : X) → Precedes xs x y → Before xs x y
  Before-from_Precedes [] x y h = absurd h
  Before-from_Precedes (z ∷ xs) x y (inl h) =
      let later = slice_get-from_Contains xs y h.1 in
      (0, suc later.0, omega arith, ap Some h.0, later.1)
  Before-from_Precedes (z ∷ xs) x y (inr h) =
      let on = Before-from_Precedes xs x y h in
      (suc on.0, suc on.1, omega (arith, on.2), on.3, on.4)

  -- ---- two concatenated lists

  Precedes-append_left : (xs ys : List X) (x y : X) → Precedes xs x y → Precedes (xs ++ ys) x y
  Precedes-append_left [] ys x y h = absurd h
  Precedes-append_left (z ∷ xs) ys x y (inl h) = inl (h.0, Contains-append_left xs ys y h.1)
  Precedes-append_left (z ∷ xs) ys x y (inr h) = inr (Precedes-append_left xs ys x y h)

  Precedes-append_right : (xs ys : List X) (x y : X) → Precedes ys x y → Precedes (xs ++ ys) x y
  Precedes-append_right [] ys x y h = h
  Precedes-append_right (z ∷ xs) ys x y h = inr (Precedes-append_right xs ys x y h)

  Precedes-across : (xs ys : List X) (x y : X) → Contains xs x → Contains ys y
      → Precedes (xs ++ ys) x y
  Precedes-across [] ys x y h k = absurd (Contains-nil x h)
  Precedes-across (z ∷ xs) ys x y h k =
      elim (Contains-cons_cases z xs x h) [
        | inl same ↦ inl (same, Contains-append_right xs ys y k)
        | inr later ↦ inr (Precedes-across xs ys x y later k)
      ]

  pub Before-append_left : (xs ys : List X) (x y : X) → Before xs x y → Before (xs ++ ys) x y
  Before-append_left xs ys x y h = Before-from_Precedes (xs ++ ys) x y
      (Precedes-append_left xs ys x y (Precedes-from_Before xs x y h))

  pub Before-append_right : (xs ys : List X) (x y : X) → Before ys x y → Before (xs ++ ys) x y
  Before-append_right xs ys x y h = Before-from_Precedes (xs ++ ys) x y
      (Precedes-append_right xs ys x y (Precedes-from_Before ys x y h))

  -- an element of the first list is before each element of the second
  pub Before-across : (xs ys : List X) (x y : X) → Contains xs x → Contains ys y
      → Before (xs ++ ys) x y
  Before-across xs ys x y h k = Before-from_Precedes (xs ++ ys) x y (Precedes-across xs ys x y h k)

  -- the positions of the second list follow those of the first
  pub slice_get-append : (xs ys : List X) (i : ℕ)
      → slice_get (xs ++ ys) (length xs + i) ≡ slice_get ys i
  slice_get-append [] ys i = let none : zero + i ≡ i = omega arith in ap (slice_get ys) none
  slice_get-append (x ∷ xs) ys i = let next : suc (length xs) + i ≡ suc (length xs + i) =
      omega arith in ap (slice_get (x ∷ xs ++ ys)) next ∙ slice_get-append xs ys i

  -- a position of the first list is the same position of both
  pub slice_get-append_left : (xs ys : List X) (i : ℕ) (x : X) → slice_get xs i ≡ Some x
      → slice_get (xs ++ ys) i ≡ Some x
  slice_get-append_left [] ys i x e = absurd (cc e)
  slice_get-append_left (z ∷ xs) ys zero x e = e
  slice_get-append_left (z ∷ xs) ys (suc i) x e = slice_get-append_left xs ys i x e

  -- ---- filtered lists

  Precedes-filter : (p : X → Bool) (xs : List X) (x y : X) → Precedes xs x y → p x ≡ true
      → p y ≡ true → Precedes (filter p xs) x y
  Precedes-filter p [] x y h px py = absurd h
  Precedes-filter p (z ∷ xs) x y h px py =
      elim (cases_Bool (p z)) [
        | inl kept ↦ rw kept (elim h [
          | inl first ↦ inl (first.0, Contains-filter p xs y first.1 py)
          | inr later ↦ inr (Precedes-filter p xs x y later px py)
        ])
        | inr dropped ↦ rw dropped (elim h [
          | inl first ↦ let same : p z ≡ p x = ap p first.0 in absurd (cc (same, px, dropped))
          | inr later ↦ Precedes-filter p xs x y later px py
        ])
      ]

  pub Before-filter : (p : X → Bool) (xs : List X) (x y : X) → Before xs x y → p x ≡ true
      → p y ≡ true → Before (filter p xs) x y
  Before-filter p xs x y h px py = Before-from_Precedes (filter p xs) x y
      (Precedes-filter p xs x y (Precedes-from_Before xs x y h) px py)
