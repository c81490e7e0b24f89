-- The rest of a list from an index on.
use Rattle.std.proofs.Common.{◌≡◌, ℕ, suc, ◌+◌, ◌<◌, ◌∙◌, sym, ap, List, ◌∷◌, length, get_or, drop}
use Rattle.std.proofs.Common.{drop-cons, add-one}

-- the rest begins with the element at that index
pub drop-at_index : {A : Type 0} (xs : List A) (i : ℕ) (x : A) → i < length xs → x ≡ get_or xs i x
    → drop i xs ≡ x ∷ drop (i + 1) xs
drop-at_index xs i x h e =
    drop-cons xs i x h ∙ ap (λ y. y ∷ drop (suc i) xs) (sym e)
    ∙ ap (λ j. x ∷ drop j xs) (sym (add-one i))
