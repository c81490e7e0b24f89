-- `rising_others` leaves a rising list without the instance itself unchanged.
use Rattle.std.proofs.Common.{◌≡◌, true, not, Ordering, Less, Equal, Greater, List, [], ◌∷◌, ◌++◌}
use Rattle.std.proofs.Common.{filter, fold, Contains, refl, sym, ap, ◌∙◌, subst, append-nil}
use Rattle.epx_types.proofs.Common.{append_assoc, insert_key, is_eq, ordering_reverse, id_cmp}
use Rattle.epx_types.proofs.Common.{Below, BelowAll, IsRising, Contains-head, Contains-cons}
use Rattle.epx_types.proofs.Common.{id_cmp-IsTotalOrder, id_cmp-IsAntisymmetric, Less-is_lt}
use Rattle.epx_types.specs.declared.id.Id.{Id}
use Rattle.epx_lines.specs.DependencyList.{is_other, rising_others}

-- ---- each Id goes last

above : (x y : Id) → Below y x → id_cmp x y ≡ Greater
above x y h = id_cmp-IsTotalOrder.antisymm x y ∙ ap ordering_reverse (Less-is_lt _ h)

first_below : (found : List Id) (y x : Id) (xs : List Id) → BelowAll y (found ++ x ∷ xs)
    → Below y x
first_below [] y x xs h = h.0
first_below (z ∷ found) y x xs h = first_below found y x xs h.1

pub insert_key-last : (found : List Id) (x : Id) (xs : List Id) → IsRising (found ++ x ∷ xs)
    → insert_key id_cmp found x ≡ found ++ x ∷ []
insert_key-last [] x xs h = refl
insert_key-last (y ∷ found) x xs h =
    rw (above x y (first_below found y x xs h.0)) (ap (λ l. y ∷ l) (insert_key-last found x xs h.1))

fold_rising : (found xs : List Id) → IsRising (found ++ xs)
    → fold (insert_key id_cmp) found xs ≡ found ++ xs
fold_rising found [] h = sym (append-nil found)
fold_rising found (x ∷ xs) h =
    let next = append_assoc found (x ∷ []) xs in
    let rising : IsRising ((found ++ x ∷ []) ++ xs) = subst IsRising (sym next) h in
    ap (λ l. fold (insert_key id_cmp) l xs) (insert_key-last found x xs h)
    ∙ fold_rising (found ++ x ∷ []) xs rising ∙ next

-- ---- no Id is the instance itself

unlike_at : (o : Ordering) (x self : Id) → id_cmp x self ≡ o → (x ≡ self → ⊥)
    → not (is_eq o) ≡ true
unlike_at Less x self e h = refl
unlike_at Equal x self e h = absurd (h (id_cmp-IsAntisymmetric x self e))
unlike_at Greater x self e h = refl

all_others : (self : Id) (xs : List Id) → ¬ Contains xs self → filter (is_other self) xs ≡ xs
all_others self [] h = refl
all_others self (x ∷ xs) h =
    let other : is_other self x ≡ true =
    unlike_at (id_cmp x self) x self refl
    (λ same. h (subst (Contains (x ∷ xs)) same (Contains-head x xs))) in
    rw other (ap (λ l. x ∷ l) (all_others self xs (λ within. h (Contains-cons x xs self within))))

pub rising_others-same : (self : Id) (xs : List Id) → IsRising xs → ¬ Contains xs self
    → rising_others self xs ≡ xs
rising_others-same self xs rising apart =
    ap (fold (insert_key id_cmp) []) (all_others self xs apart) ∙ fold_rising [] xs rising

-- ---- other Ids inserted one after another

-- the Ids so far, into which the Ids of a list are inserted that are not the instance itself
abbrev pub with_others : Id → List Id → List Id → List Id
with_others self found ids = fold (insert_key id_cmp) found (filter (is_other self) ids)
