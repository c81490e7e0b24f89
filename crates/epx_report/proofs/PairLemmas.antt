-- Text that grows by what is printed of pairs, until one of the two lists ends.
use Rattle.std.proofs.Common.{◌≡◌, ◌⊎◌, ◌++◌, ℕ, List, [], ◌∷◌, length, flat_map, zip, append-nil}
use Rattle.std.proofs.Common.{refl, sym, ap, ◌∙◌, inl, inr}

zip_at_end : {A B : Type 0} (xs : List A) (ys : List B) → (length xs ≡ 0) ⊎ (length ys ≡ 0)
    → zip xs ys ≡ []
zip_at_end [] ys h = refl
zip_at_end (x ∷ xs) [] h = refl
zip_at_end (x ∷ xs) (y ∷ ys) (inl e) = absurd (cc e)
zip_at_end (x ∷ xs) (y ∷ ys) (inr e) = absurd (cc e)

pub flat_map-zip_at_end : {A B : Type 0} (f : A × B → List ℕ) (text whole : List ℕ) (xs : List A)
    (ys : List B) → text ++ flat_map f (zip xs ys) ≡ whole → (length xs ≡ 0) ⊎ (length ys ≡ 0)
    → text ≡ whole
flat_map-zip_at_end f text whole xs ys e h =
    sym (append-nil text) ∙ ap (λ zs. text ++ flat_map f zs) (sym (zip_at_end xs ys h)) ∙ e
