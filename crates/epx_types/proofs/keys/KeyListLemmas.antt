-- The order of keys is total, and the rising keys of a list are exactly its keys.
use Rattle.std.proofs.Common.{◌≡◌, ◌⊎◌, ℕ, true, false, List, [], ◌∷◌, ◌++◌, flat_map, Contains}
use Rattle.std.proofs.Common.{Less, Equal, Greater, is_eq, refl, sym, ap, ◌∙◌, subst, inl, inr}
use Rattle.std.proofs.Common.{All, AllPairs, is_lt, arith}
use Rattle.std.specs.Ordering.{eq_by_cmp, ordering_reverse}
use Rattle.std.specs.Cmp.{IsTotalOrder, tied_itself}
use Rattle.std.specs.Cmp.Lexicographic.{nat_list_cmp_total}
use Rattle.std.specs.FinMap.{IsAntisymmetric, nat_cmp-IsAntisymmetric, slice_cmp-IsAntisymmetric}
use Rattle.std.specs.BTreeSet.{insert_key}
use Rattle.std.proofs.lemmas.List.Kept.{AllPairs-cons}
use Rattle.std.proofs.lemmas.Map.Views.{All-insert_key}
use Rattle.std.proofs.lemmas.List.Elements.{All-nil, All-cons, All-weaker, Contains-append_left}
use Rattle.std.proofs.lemmas.List.Elements.{Contains-append_right, Contains-append_cases}
use Rattle.epx_types.specs.Keys.{key_cmp, KeyBelow, add_keys, rising_keys}
use Rattle.epx_types.proofs.lists.MembershipLemmas.{Contains-nil, Contains-head, Contains-cons}
use Rattle.epx_types.proofs.lists.MembershipLemmas.{Contains-cons_cases}
use Rattle.epx_types.proofs.lists.ListPositionLemmas.{AllPairs-first, AllPairs-tail}
use Rattle.epx_types.proofs.lists.TotalOrderLemmas.{is_lt-trans}

-- the order of keys is total
pub key_cmp-IsTotalOrder : IsTotalOrder key_cmp
key_cmp-IsTotalOrder = nat_list_cmp_total

-- keys that compare as equal are equal
pub key_cmp-IsAntisymmetric : IsAntisymmetric key_cmp
key_cmp-IsAntisymmetric = slice_cmp-IsAntisymmetric nat_cmp-IsAntisymmetric

key_itself : (q k : List ℕ) → q ≡ k → key_cmp q k ≡ Equal
key_itself q k e = ap (key_cmp q) (sym e) ∙ tied_itself key_cmp-IsTotalOrder q

-- the test whether two keys are equal, with its meaning
pub key_cmp-cases : (q k : List ℕ) → (eq_by_cmp key_cmp q k ≡ true) × (q ≡ k)
    ⊎ (eq_by_cmp key_cmp q k ≡ false) × (¬ (q ≡ k))
key_cmp-cases q k =
    elim (key_cmp q k) as (λ r. key_cmp q k ≡ r → (eq_by_cmp key_cmp q k ≡ true) × (q ≡ k)
    ⊎ (eq_by_cmp key_cmp q k ≡ false) × (¬ (q ≡ k))) [
      | Less ↦ λ e. inr (ap is_eq e, λ same. absurd (cc (e, key_itself q k same)))
      | Equal ↦ λ e. inl (ap is_eq e, key_cmp-IsAntisymmetric q k e)
      | Greater ↦ λ e. inr (ap is_eq e, λ same. absurd (cc (e, key_itself q k same)))
    ] refl

-- ---- inserting a key

Contains-insert_key_itself : (ks : List (List ℕ)) (k : List ℕ)
    → Contains (insert_key key_cmp ks k) k
Contains-insert_key_itself [] k = Contains-head k []
Contains-insert_key_itself (x ∷ ks) k =
    elim (key_cmp k x) as (λ r. key_cmp k x ≡ r → Contains (insert_key key_cmp (x ∷ ks) k) k) [
      | Less ↦ λ e. rw e (Contains-head k (x ∷ ks))
      | Equal ↦ λ e. rw e
          (subst (Contains (x ∷ ks)) (sym (key_cmp-IsAntisymmetric k x e)) (Contains-head x ks))
      | Greater ↦ λ e. rw e
          (Contains-cons x (insert_key key_cmp ks k) k (Contains-insert_key_itself ks k))
    ] refl

Contains-insert_key_other : (ks : List (List ℕ)) (k q : List ℕ) → Contains ks q
    → Contains (insert_key key_cmp ks k) q
Contains-insert_key_other [] k q h = absurd (Contains-nil q h)
Contains-insert_key_other (x ∷ ks) k q h =
    elim (key_cmp k x) as (λ r. key_cmp k x ≡ r → Contains (insert_key key_cmp (x ∷ ks) k) q) [
      | Less ↦ λ e. rw e (Contains-cons k (x ∷ ks) q h)
      | Equal ↦ λ e. rw e h
      | Greater ↦ λ e. rw e (elim (Contains-cons_cases x ks q h) [
        | inl same ↦ subst (Contains (x ∷ insert_key key_cmp ks k)) same
            (Contains-head x (insert_key key_cmp ks k))
        | inr rest ↦ Contains-cons x (insert_key key_cmp ks k) q
            (Contains-insert_key_other ks k q rest)
      ])
    ] refl

Contains-insert_key_cases : (ks : List (List ℕ)) (k q : List ℕ)
    → Contains (insert_key key_cmp ks k) q → (k ≡ q) ⊎ Contains ks q
Contains-insert_key_cases [] k q h = Contains-cons_cases k [] q h
Contains-insert_key_cases (x ∷ ks) k q h =
    elim (key_cmp k x) as (λ r. key_cmp k x ≡ r → (k ≡ q) ⊎ Contains (x ∷ ks) q) [
      | Less ↦ λ e. Contains-cons_cases k (x ∷ ks) q (rw e at h)
      | Equal ↦ λ e. inr (rw e at h)
      | Greater ↦ λ e. elim (Contains-cons_cases x (insert_key key_cmp ks k) q (rw e at h)) [
        | inl same ↦ inr (subst (Contains (x ∷ ks)) same (Contains-head x ks))
        | inr rest ↦ elim (Contains-insert_key_cases ks k q rest)
            [ inl same ↦ inl same | inr within ↦ inr (Contains-cons x ks q within) ]
      ]
    ] refl

-- ---- rising keys

-- inserting two lists of keys one after the other
pub add_keys-append : (rising ks js : List (List ℕ))
    → add_keys rising (ks ++ js) ≡ add_keys (add_keys rising ks) js
add_keys-append rising [] js = refl
add_keys-append rising (k ∷ ks) js = add_keys-append (insert_key key_cmp rising k) ks js

Contains-add_keys : (rising ks : List (List ℕ)) (q : List ℕ) → Contains rising q ⊎ Contains ks q
    → Contains (add_keys rising ks) q
Contains-add_keys rising [] q (inl h) = h
Contains-add_keys rising [] q (inr h) = absurd (Contains-nil q h)
Contains-add_keys rising (k ∷ ks) q h =
    Contains-add_keys (insert_key key_cmp rising k) ks q (elim h [
      | inl had ↦ inl (Contains-insert_key_other rising k q had)
      | inr more ↦ elim (Contains-cons_cases k ks q more) [
        | inl same ↦ inl (subst (Contains (insert_key key_cmp rising k)) same
            (Contains-insert_key_itself rising k))
        | inr rest ↦ inr rest
      ]
    ])

Contains-from_add_keys : (rising ks : List (List ℕ)) (q : List ℕ) → Contains (add_keys rising ks) q
    → Contains rising q ⊎ Contains ks q
Contains-from_add_keys rising [] q h = inl h
Contains-from_add_keys rising (k ∷ ks) q h =
    elim (Contains-from_add_keys (insert_key key_cmp rising k) ks q h) [
      | inl placed ↦ elim (Contains-insert_key_cases rising k q placed) [
        | inl same ↦ inr (subst (Contains (k ∷ ks)) same (Contains-head k ks))
        | inr had ↦ inl had
      ]
      | inr rest ↦ inr (Contains-cons k ks q rest)
    ]

-- each key of the list is among its rising keys
pub Contains-rising_keys : (ks : List (List ℕ)) (q : List ℕ) → Contains ks q
    → Contains (rising_keys ks) q
Contains-rising_keys ks q h = Contains-add_keys [] ks q (inr h)

-- and no other
pub Contains-from_rising_keys : (ks : List (List ℕ)) (q : List ℕ) → Contains (rising_keys ks) q
    → Contains ks q
Contains-from_rising_keys ks q h =
    elim (Contains-from_add_keys [] ks q h) [
      | inl none ↦ absurd (Contains-nil q none)
      | inr listed ↦ listed
    ]

KeyBelow-Less : (j k : List ℕ) → key_cmp j k ≡ Less → KeyBelow j k
KeyBelow-Less j k e = ap is_lt e

All-KeyBelow_trans : (j k : List ℕ) (ks : List (List ℕ)) → KeyBelow j k → All (KeyBelow k) ks
    → All (KeyBelow j) ks
All-KeyBelow_trans j k ks l h =
    All-weaker (KeyBelow k) (KeyBelow j) (λ x. is_lt-trans key_cmp-IsTotalOrder j k x l) ks h

AllPairs-insert_key : (ks : List (List ℕ)) (k : List ℕ) → AllPairs KeyBelow ks
    → AllPairs KeyBelow (insert_key key_cmp ks k)
AllPairs-insert_key [] k h = AllPairs-cons KeyBelow k [] (All-nil (KeyBelow k)) h
AllPairs-insert_key (x ∷ ks) k h =
    let first : All (KeyBelow x) ks = AllPairs-first KeyBelow x ks h in
    let rest = AllPairs-tail KeyBelow x ks h in
    elim (key_cmp k x) as (λ r. key_cmp k x ≡ r
    → AllPairs KeyBelow (insert_key key_cmp (x ∷ ks) k)) [
      | Less ↦ λ e. rw e
          (AllPairs-cons KeyBelow k (x ∷ ks)
          (All-cons (KeyBelow k) x ks (KeyBelow-Less k x e)
          (All-KeyBelow_trans k x ks (KeyBelow-Less k x e) first)) h)
      | Equal ↦ λ e. rw e h
      | Greater ↦ λ e.
          let above : KeyBelow x k = KeyBelow-Less x k
          (key_cmp-IsTotalOrder.antisymm x k ∙ ap ordering_reverse e) in
          rw e (AllPairs-cons KeyBelow x (insert_key key_cmp ks k)
          (All-insert_key key_cmp k (KeyBelow x) ks first above)
          (AllPairs-insert_key ks k rest))
    ] refl

AllPairs-add_keys : (rising ks : List (List ℕ)) → AllPairs KeyBelow rising
    → AllPairs KeyBelow (add_keys rising ks)
AllPairs-add_keys rising [] h = h
AllPairs-add_keys rising (k ∷ ks) h =
    AllPairs-add_keys (insert_key key_cmp rising k) ks (AllPairs-insert_key rising k h)

-- they rise, so each occurs once
pub AllPairs-rising_keys : (ks : List (List ℕ)) → AllPairs KeyBelow (rising_keys ks)
AllPairs-rising_keys ks = AllPairs-add_keys [] ks (λ i j d l k. absurd (omega arith))

-- ---- concatenated lists

-- if f x is within g x for each x, the concatenation of all f x is within that of all g x
pub Contains-flat_map_within : {X Y : Type 0} (f g : X → List Y)
    → ((x : X) (y : Y) → Contains (f x) y → Contains (g x) y) → (xs : List X) (y : Y)
    → Contains (flat_map f xs) y → Contains (flat_map g xs) y
Contains-flat_map_within f g within [] y h = h
Contains-flat_map_within f g within (x ∷ xs) y h =
    elim (Contains-append_cases (f x) (flat_map f xs) y h) [
      | inl first ↦ Contains-append_left (g x) (flat_map g xs) y (within x y first)
      | inr rest ↦ Contains-append_right (g x) (flat_map g xs) y
          (Contains-flat_map_within f g within xs y rest)
    ]
