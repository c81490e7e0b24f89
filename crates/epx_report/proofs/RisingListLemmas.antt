-- Rising lists of Ids and of keys, with one more inserted.
use Rattle.std.proofs.Common.{◌≡◌, ◌⊎◌, inl, inr, ℕ, suc, ◌-◌, true, false, T, Bool, Less, Equal}
use Rattle.std.proofs.Common.{Greater, is_lt, ℤ, List, [], ◌∷◌, ◌++◌, Contains, length, slice_get}
use Rattle.std.proofs.Common.{option_map, refl, sym, ap, ◌∙◌, subst, arith}
use Rattle.epx_types.proofs.Common.{insert_key, is_sorted, id_cmp, IsRising, key_cmp, Contains-nil}
use Rattle.epx_types.proofs.Common.{Contains-head, Contains-cons, Contains-cons_cases}
use Rattle.epx_types.proofs.Common.{id_cmp-IsAntisymmetric, and-first, and-second}
use Rattle.epx_types.specs.declared.id.Id.{Id}
use Rattle.epx_report.specs.inner.Progress.{last, is_after_last}

-- ---- an inserted Id

pub Contains-insert_itself : (xs : List Id) (x : Id) → Contains (insert_key id_cmp xs x) x
Contains-insert_itself [] x = Contains-head x []
Contains-insert_itself (y ∷ xs) x =
    elim (id_cmp x y) as (λ r. id_cmp x y ≡ r → Contains (insert_key id_cmp (y ∷ xs) x) x) [
      | Less ↦ λ e. rw e (Contains-head x (y ∷ xs))
      | Equal ↦ λ e. rw e
          (subst (Contains (y ∷ xs)) (sym (id_cmp-IsAntisymmetric x y e)) (Contains-head y xs))
      | Greater ↦ λ e. rw e
          (Contains-cons y (insert_key id_cmp xs x) x (Contains-insert_itself xs x))
    ] refl

pub Contains-insert_other : (xs : List Id) (x z : Id) → Contains xs z
    → Contains (insert_key id_cmp xs x) z
Contains-insert_other [] x z h = absurd (Contains-nil z h)
Contains-insert_other (y ∷ xs) x z h =
    elim (id_cmp x y) as (λ r. id_cmp x y ≡ r → Contains (insert_key id_cmp (y ∷ xs) x) z) [
      | Less ↦ λ e. rw e (Contains-cons x (y ∷ xs) z h)
      | Equal ↦ λ e. rw e h
      | Greater ↦ λ e. rw e (elim (Contains-cons_cases y xs z h) [
        | inl same ↦ subst (Contains (y ∷ insert_key id_cmp xs x)) same
            (Contains-head y (insert_key id_cmp xs x))
        | inr rest ↦ Contains-cons y (insert_key id_cmp xs x) z (Contains-insert_other xs x z rest)
      ])
    ] refl

pub Contains-insert_cases : (xs : List Id) (x z : Id) → Contains (insert_key id_cmp xs x) z
    → (x ≡ z) ⊎ Contains xs z
Contains-insert_cases [] x z h = Contains-cons_cases x [] z h
Contains-insert_cases (y ∷ xs) x z h =
    elim (id_cmp x y) as (λ r. id_cmp x y ≡ r → (x ≡ z) ⊎ Contains (y ∷ xs) z) [
      | Less ↦ λ e. Contains-cons_cases x (y ∷ xs) z (rw e at h)
      | Equal ↦ λ e. inr (rw e at h)
      | Greater ↦ λ e. elim (Contains-cons_cases y (insert_key id_cmp xs x) z (rw e at h)) [
        | inl same ↦ inr (subst (Contains (y ∷ xs)) same (Contains-head y xs))
        | inr rest ↦ elim (Contains-insert_cases xs x z rest)
            [ inl same ↦ inl same | inr within ↦ inr (Contains-cons y xs z within) ]
      ]
    ] refl

-- ---- the next one is greater than the last one

pub last-cons : {X : Type 0} (x z : X) (zs : List X) → last (x ∷ z ∷ zs) ≡ last (z ∷ zs)
last-cons x z zs =
    let front : suc (suc (length zs)) - 1 ≡ suc (length zs) = omega arith in
    let back : suc (length zs) - 1 ≡ length zs = omega arith in
    ap (slice_get (x ∷ z ∷ zs)) front ∙ sym (ap (slice_get (z ∷ zs)) back)

pub is_after_last-rising : (xs : List Id) (y : Id) (ys : List Id) → IsRising (xs ++ y ∷ ys)
    → is_after_last id_cmp (last xs) y ≡ true
is_after_last-rising [] y ys h = refl
is_after_last-rising (x ∷ []) y ys h = h.0.0
is_after_last-rising (x ∷ z ∷ zs) y ys h =
    rw (last-cons x z zs) (is_after_last-rising (z ∷ zs) y ys h.1)

pub T-true : (b : Bool) → T b → b ≡ true
T-true true h = refl
T-true false h = absurd h

pub is_after_last-sorted : (es : List (List ℕ × ℤ)) (e : List ℕ × ℤ) (fs : List (List ℕ × ℤ))
    → T (is_sorted key_cmp (es ++ e ∷ fs))
    → is_after_last key_cmp (option_map (λ p. p.0) (last es)) e.0 ≡ true
is_after_last-sorted [] e fs h = refl
is_after_last-sorted (d ∷ []) e fs h =
    T-true (is_lt (key_cmp d.0 e.0)) (and-first _ _ (and-first _ _ h))
is_after_last-sorted (d ∷ c ∷ es) e fs h =
    rw (last-cons d c es) (is_after_last-sorted (c ∷ es) e fs (and-second _ _ h))
