-- Lists that are filtered element by element, and instances that are not done.
use Rattle.std.proofs.Common.{◌≡◌, ℕ, ◌+◌, ◌<◌, Bool, true, false, List, [], ◌∷◌, ◌++◌, length}
use Rattle.std.proofs.Common.{get_or, take, filter, flat_map, Contains, ◌&&◌, refl, ap, ◌∙◌, inl}
use Rattle.std.proofs.Common.{inr}
use Rattle.epx_types.proofs.Common.{cases_Bool, Contains-head, Contains-cons, append-nil, take_more}
use Rattle.epx_types.proofs.Common.{filter-append}
use Rattle.std.proofs.lemmas.Grind.{flat_map-append}

module _ {X : Type 0} (p : X → Bool) (xs : List X) (k : ℕ) (d : X) (l : k < length xs) where
  next : filter p (take (k + 1) xs) ≡ filter p (take k xs) ++ filter p (get_or xs k d ∷ [])
  next = ap (filter p) (take_more xs k d l) ∙ filter-append p (take k xs) (get_or xs k d ∷ [])

  -- the next element passes
  pub filter-kept : p (get_or xs k d) ≡ true
      → filter p (take (k + 1) xs) ≡ filter p (take k xs) ++ get_or xs k d ∷ []
  filter-kept e = next ∙ ap (λ ys. filter p (take k xs) ++ ys) (rw e)

  -- the next element does not pass
  pub filter-skipped : p (get_or xs k d) ≡ false
      → filter p (take (k + 1) xs) ≡ filter p (take k xs)
  filter-skipped e = next ∙ ap (λ ys. filter p (take k xs) ++ ys) (rw e)
      ∙ append-nil (filter p (take k xs))

-- the list of one more element
pub flat_map-more : {X Y : Type 0} (f : X → List Y) (xs : List X) (k : ℕ) (d : X)
    → k < length xs → flat_map f (take (k + 1) xs) ≡ flat_map f (take k xs) ++ f (get_or xs k d)
flat_map-more f xs k d l =
    ap (flat_map f) (take_more xs k d l) ∙ flat_map-append f (take k xs) (get_or xs k d ∷ [])
    ∙ ap (λ ys. flat_map f (take k xs) ++ ys) (append-nil (f (get_or xs k d)))

-- tests that agree on the elements filter alike
pub filter-agree : {X : Type 0} (p q : X → Bool) (xs : List X)
    → ((x : X) → Contains xs x → p x ≡ q x) → filter p xs ≡ filter q xs
filter-agree p q [] h = refl
filter-agree p q (x ∷ xs) h =
    let rest = filter-agree p q xs (λ y there. h y (Contains-cons x xs y there)) in
    elim (cases_Bool (q x)) [
      | inl passes ↦ rw (h x (Contains-head x xs) ∙ passes) (rw passes (ap (λ ys. x ∷ ys) rest))
      | inr fails ↦ rw (h x (Contains-head x xs) ∙ fails) (rw fails rest)
    ]

-- two tests, one after the other
pub filter-twice : {X : Type 0} (p q r : X → Bool) (xs : List X)
    → ((x : X) → r x ≡ (q x && p x)) → filter p (filter q xs) ≡ filter r xs
filter-twice p q r [] h = refl
filter-twice p q r (x ∷ xs) h =
    elim (cases_Bool (q x)) [
      | inr fails ↦ rw fails (rw (h x ∙ ap (λ b. b && p x) fails) (filter-twice p q r xs h))
      | inl passes ↦ rw passes (elim (cases_Bool (p x)) [
        | inl also ↦ rw also (rw (h x ∙ ap (λ b. b && p x) passes ∙ also)
            (ap (λ ys. x ∷ ys) (filter-twice p q r xs h)))
        | inr other ↦ rw other (rw (h x ∙ ap (λ b. b && p x) passes ∙ other)
            (filter-twice p q r xs h))
      ])
    ]
