-- Lines that all name something, as a list of what they name.
use Rattle.std.proofs.Common.{◌≡◌, List, [], ◌∷◌, map, Option, Some, refl, ap₂}

module _ {X : Type 0} where
  -- the first of them
  pub map-Some_cons : (o : Option X) (os : List (Option X)) (xs : List X) → o ∷ os ≡ map Some xs
      → (x : X) × (rest : List X) × (o ≡ Some x) × (os ≡ map Some rest) × (xs ≡ x ∷ rest)
  map-Some_cons o os [] e = absurd (cc e)
  map-Some_cons o os (x ∷ xs) e = (x, xs, cc e, cc e, refl)

  pub map-Some_is_injective : (xs ys : List X) → map Some xs ≡ map Some ys → xs ≡ ys
  map-Some_is_injective [] [] e = refl
  map-Some_is_injective [] (y ∷ ys) e = absurd (cc e)
  map-Some_is_injective (x ∷ xs) [] e = absurd (cc e)
  map-Some_is_injective (x ∷ xs) (y ∷ ys) e =
      ap₂ (λ z zs. z ∷ zs) (cc e) (map-Some_is_injective xs ys (cc e))
