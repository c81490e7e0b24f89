-- Filings as the entries of a map, and the lists of what is filed under each Id.
use Rattle.std.proofs.Common.{◌≡◌, ◌⊎◌, ◌↔◌, List, [], ◌∷◌, length, Contains, refl, sym, ap, subst}
use Rattle.std.proofs.Common.{inl, inr, ◌∙◌, arith, Some, None, Option, Bool, true, false, cond}
use Rattle.std.proofs.Common.{Vec}
use Rattle.std.specs.List.{items_where_true}
use Rattle.std.specs.List.Retain.{IsFiltered, ReturnsInTurn}
use Rattle.std.specs.Option.{MatchOption, is_some}
use Rattle.epx_types.proofs.Common.{BTreeMap, IsOrdered, get, is_at, cases_Bool, id_cmp, Id-cases}
use Rattle.epx_types.proofs.Common.{id_cmp-IsTotalOrder, id_cmp-IsAntisymmetric, Contains-nil}
use Rattle.epx_types.proofs.Common.{Contains-head, Contains-cons, Contains-cons_cases}
use Rattle.epx_types.specs.declared.id.Id.{Id}
use Rattle.std.specs.BTreeMap.{Updates}
use Rattle.std.proofs.lemmas.Map.Views.{btree_map_get_iff, tells_apart}
use Rattle.epx_executor.specs.inner.Filings.{AreListedUnder, Filings, IsFiled, IsListed}
use Rattle.epx_executor.proofs.FilingLemmas.{IsFiled-under, Contains-filed_under}

-- ---- what a map of the filings holds

pub Contains-from_get : (m : BTreeMap Id Id) → IsOrdered id_cmp m → (x y : Id)
    → get id_cmp m x ≡ Some y → Contains m.entries (x, y)
Contains-from_get m order x y =
    (btree_map_get_iff id_cmp-IsTotalOrder id_cmp-IsAntisymmetric m order x y).0

pub get-from_Contains : (m : BTreeMap Id Id) → IsOrdered id_cmp m → (x y : Id)
    → Contains m.entries (x, y) → get id_cmp m x ≡ Some y
get-from_Contains m order x y =
    (btree_map_get_iff id_cmp-IsTotalOrder id_cmp-IsAntisymmetric m order x y).1

some-injective : {X : Type 0} (v w : X) → Some v ≡ Some w → v ≡ w
some-injective v w e = cc e

none-not_some : {X : Type 0} (v : X) → ¬ (None ≡ Some v)
none-not_some v e = cc e

pub not_filed-from_get : (m : BTreeMap Id Id) → IsOrdered id_cmp m → (x : Id)
    → None ≡ get id_cmp m x → ¬ IsFiled m.entries x
not_filed-from_get m order x none h =
    let r = Contains-filed_under m.entries x h in
    none-not_some r.0 (none ∙ get-from_Contains m order x r.0 r.1)

-- another Id is not at this one
pub is_at-apart : (id x : Id) → ¬ (x ≡ id) → is_at (id_cmp id) x ≡ false
is_at-apart id x apart = elim (cases_Bool (is_at (id_cmp id) x)) [
  | inl here ↦ absurd (apart (sym (tells_apart id_cmp-IsAntisymmetric id x here)))
  | inr other ↦ other
]

module _ {X : Type 0} (m n : BTreeMap Id X) (id : Id) where
  -- what an update leaves at another Id
  get-other : (w : Option X) → Updates id_cmp m n id w → (x : Id) → ¬ (x ≡ id)
      → get id_cmp n x ≡ get id_cmp m x
  get-other w u x apart =
      u.0 x ∙ ap (λ (b : Bool). cond b w (get id_cmp m x)) (is_at-apart id x apart)

module _ (m n : BTreeMap Id Id) (id : Id) (order : IsOrdered id_cmp m)
    (order_after : IsOrdered id_cmp n) where
  -- a removal
  pub Contains-removed : Updates id_cmp m n id None → (x y : Id)
      → Contains n.entries (x, y) ↔ (Contains m.entries (x, y) × ¬ (x ≡ id))
  Contains-removed u x y = (there, back) where
    there : Contains n.entries (x, y) → Contains m.entries (x, y) × ¬ (x ≡ id)
    there h =
        let found : get id_cmp n x ≡ Some y = get-from_Contains n order_after x y h in
        elim (Id-cases x id) [
          | inl e ↦
              let gone : get id_cmp n x ≡ None =
              ap (get id_cmp n) e ∙ u.1 in
              absurd (none-not_some y (sym gone ∙ found))
          | inr apart ↦
              (Contains-from_get m order x y (sym (get-other m n id None u x apart) ∙ found), apart)
        ]

    back : Contains m.entries (x, y) × ¬ (x ≡ id) → Contains n.entries (x, y)
    back h = Contains-from_get n order_after x y
        (get-other m n id None u x h.1 ∙ get-from_Contains m order x y h.0)

  -- an insertion under a new Id
  pub Contains-inserted : (under : Id) → Updates id_cmp m n id (Some under)
      → ¬ IsFiled m.entries id → (x y : Id) → Contains n.entries (x, y)
      ↔ (Contains m.entries (x, y) ⊎ ((x ≡ id) × (y ≡ under)))
  Contains-inserted under u not_filed x y = (there, back) where
    there : Contains n.entries (x, y) → Contains m.entries (x, y) ⊎ ((x ≡ id) × (y ≡ under))
    there h =
        let found : get id_cmp n x ≡ Some y = get-from_Contains n order_after x y h in
        elim (Id-cases x id) [
          | inl e ↦
              let new : get id_cmp n x ≡ Some under = ap (get id_cmp n) e ∙ u.1 in
              inr (e, some-injective y under (sym found ∙ new))
          | inr apart ↦
              inl (Contains-from_get m order x y
              (sym (get-other m n id (Some under) u x apart) ∙ found))
        ]

    back : Contains m.entries (x, y) ⊎ ((x ≡ id) × (y ≡ under)) → Contains n.entries (x, y)
    back (inl h) =
        let apart : ¬ (x ≡ id) =
        λ e. not_filed (subst (IsFiled m.entries) e (IsFiled-under m.entries x y h)) in
        Contains-from_get n order_after x y
        (get-other m n id (Some under) u x apart ∙ get-from_Contains m order x y h)
    back (inr e) = Contains-from_get n order_after x y
        (ap (get id_cmp n) e.0 ∙ u.1 ∙ ap (λ (i : Id). Some i) (sym e.1))

-- ---- lists of what is filed under each Id

is_some-matched : {X : Type 0} (P : X → Type 0) (o : Option X) → MatchOption o ⊥ P
    → is_some o ≡ true
is_some-matched P None h = absurd h
is_some-matched P (Some v) h = refl

pub is_some-listed : {Z : Type 0} (children : BTreeMap Id (Vec Id Z)) (x y : Id)
    → IsListed children x y → is_some (get id_cmp children y) ≡ true
is_some-listed children x y h =
    is_some-matched (λ v. Contains v.items x) (get id_cmp children y) h

module _ {Z : Type 0} (m n : BTreeMap Id (Vec Id Z)) (id : Id) where
  IsListed-other : (w : Option (Vec Id Z)) → Updates id_cmp m n id w → (x y : Id) → ¬ (y ≡ id)
      → IsListed m x y → IsListed n x y
  IsListed-other w u x y apart h =
      subst (λ (o : Option (Vec Id Z)). MatchOption o ⊥ (λ v. Contains v.items x))
      (sym (get-other m n id w u y apart)) h

  pub IsListed-here : (w : Vec Id Z) → Updates id_cmp m n id (Some w) → (x : Id)
      → Contains w.items x → IsListed n x id
  IsListed-here w u x h =
      subst (λ (o : Option (Vec Id Z)). MatchOption o ⊥ (λ v. Contains v.items x)) (sym u.1) h

  -- another list for an Id, with all that was in the old one
  pub IsListed-updated : (w : Vec Id Z) → Updates id_cmp m n id (Some w)
      → ((x : Id) → IsListed m x id → Contains w.items x) → (x y : Id) → IsListed m x y
      → IsListed n x y
  IsListed-updated w u kept x y h = elim (Id-cases y id) [
    | inl e ↦ subst (IsListed n x) (sym e)
        (IsListed-here w u x (kept x (subst (IsListed m x) e h)))
    | inr apart ↦ IsListed-other (Some w) u x y apart h
  ]

  -- another list for an Id, with all that is filed under it
  pub AreListedUnder-updated : (filings : Filings) (w : Vec Id Z) → Updates id_cmp m n id (Some w)
      → ((x : Id) → Contains filings (x, id) → Contains w.items x) → AreListedUnder filings m
      → AreListedUnder filings n
  AreListedUnder-updated filings w u kept listed x y h = elim (Id-cases y id) [
    | inl e ↦ subst (IsListed n x) (sym e)
        (IsListed-here w u x (kept x (subst (λ (z : Id). Contains filings (x, z)) e h)))
    | inr apart ↦ IsListed-other (Some w) u x y apart (listed x y h)
  ]

  -- no list for an Id under which nothing is filed
  pub AreListedUnder-removed : (filings : Filings) → Updates id_cmp m n id None
      → ((x : Id) → ¬ Contains filings (x, id)) → AreListedUnder filings m
      → AreListedUnder filings n
  AreListedUnder-removed filings u none listed x y h = elim (Id-cases y id) [
    | inl e ↦ absurd (none x (subst (λ (z : Id). Contains filings (x, z)) e h))
    | inr apart ↦ IsListed-other None u x y apart (listed x y h)
  ]

pub Contains-from_listed : {Z : Type 0} (m : BTreeMap Id (Vec Id Z)) (x y : Id) (list : Vec Id Z)
    → Some list ≡ get id_cmp m y → IsListed m x y → Contains list.items x
Contains-from_listed {Z} m x y list found h =
    subst (λ (o : Option (Vec Id Z)). MatchOption o ⊥ (λ v. Contains v.items x)) (sym found) h

pub none-listed : {Z : Type 0} (m : BTreeMap Id (Vec Id Z)) (x y : Id)
    → None ≡ get id_cmp m y → ¬ IsListed m x y
none-listed {Z} m x y found h =
    subst (λ (o : Option (Vec Id Z)). MatchOption o ⊥ (λ v. Contains v.items x)) (sym found) h

-- ---- what a `retain` keeps

module _ {X F : Type 0} (R : F → X → Bool → F → Type 0) (P : X → Type 0) (f : F)
    (h : (x : X) (b : Bool) (g : F) → R f x b g → (P x → b ≡ true) × (g ≡ f)) where
  kept_in_turn : (bs : List Bool) (xs : List X) (p q : F) → p ≡ f → length bs ≡ length xs
      → ReturnsInTurn R p bs xs q → (x : X) → Contains xs x → P x
      → Contains (items_where_true bs xs) x
  kept_in_turn [] [] p q e l r x m y = absurd (Contains-nil x m)
  kept_in_turn [] (z ∷ xs) p q e l r x m y = absurd (omega (arith, l))
  kept_in_turn (b ∷ bs) [] p q e l r x m y = absurd r
  kept_in_turn (true ∷ bs) (z ∷ xs) p q e l r x m y =
      let told = h z true r.0 (subst (λ (g : F). R g z true r.0) e r.1) in
      elim (Contains-cons_cases z xs x m) [
        | inl same ↦ subst (Contains (z ∷ items_where_true bs xs)) same
            (Contains-head z (items_where_true bs xs))
        | inr later ↦ Contains-cons z (items_where_true bs xs) x
            (kept_in_turn bs xs r.0 q told.1 (omega (arith, l)) r.2 x later y)
      ]
  kept_in_turn (false ∷ bs) (z ∷ xs) p q e l r x m y =
      let told = h z false r.0 (subst (λ (g : F). R g z false r.0) e r.1) in
      elim (Contains-cons_cases z xs x m) [
        | inl same ↦ absurd (cc (told.0 (subst P (sym same) y)))
        | inr later ↦ kept_in_turn bs xs r.0 q told.1 (omega (arith, l)) r.2 x later y
      ]

  -- all at which the test says `true`
  pub Contains-retained : (xs ys : List X) → IsFiltered R f xs ys → (x : X) → Contains xs x
      → P x → Contains ys x
  Contains-retained xs ys k x m y =
      subst (λ (zs : List X). Contains zs x) (sym k.4)
      (kept_in_turn k.0 xs f k.1 refl k.2 k.3 x m y)

-- ---- a list that keeps what is filed

module _ {Z : Type 0} (parents : BTreeMap Id Id) (m n : BTreeMap Id (Vec Id Z)) (id : Id)
    (list left : Vec Id Z) (order : IsOrdered id_cmp parents)
    (found : Some list ≡ get id_cmp m id) (listed : AreListedUnder parents.entries m)
    (keeps : (x : Id) → Contains list.items x → get id_cmp parents x ≡ Some id
    → Contains left.items x) where
  kept_filed : (x : Id) → Contains parents.entries (x, id) → Contains left.items x
  kept_filed x h = keeps x (Contains-from_listed m x id list found (listed x id h))
      (get-from_Contains parents order x id h)

  pub AreListedUnder-kept : Updates id_cmp m n id (Some left) → AreListedUnder parents.entries n
  AreListedUnder-kept u = AreListedUnder-updated m n id parents.entries left u kept_filed listed

  pub AreListedUnder-emptied : (o : BTreeMap Id (Vec Id Z)) → Updates id_cmp m n id (Some left)
      → Updates id_cmp n o id None → left.len ≡ 0 → AreListedUnder parents.entries o
  AreListedUnder-emptied o u v empty =
      AreListedUnder-removed n o id parents.entries v
      (λ x h. let there = kept_filed x h in absurd (omega (arith, there.1, left.ok.0, empty)))
      (AreListedUnder-kept u)
