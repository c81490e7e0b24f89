-- Contents after an assignment, and after writes.
use Rattle.std.proofs.Common.{◌≡◌, ◌⊎◌, ℕ, ℤ, cond, List, [], ◌∷◌, map, Contains, Option, Some}
use Rattle.std.proofs.Common.{None, sym, ap, ◌∙◌, inl, inr}
use Rattle.std.specs.Ordering.{eq_by_cmp}
use Rattle.std.specs.FinMap as contents
use Rattle.std.specs.FinMap.{get-insert, get-remove, same_map}
use Rattle.epx_types.specs.Keys.{key_cmp}
use Rattle.epx_types.specs.Contents.{Contents, assign}
use Rattle.epx_types.specs.Writes.{apply_writes}
use Rattle.epx_types.proofs.lists.MembershipLemmas.{Contains-nil, Contains-cons_cases}
use Rattle.epx_types.proofs.keys.KeyListLemmas.{key_cmp-IsTotalOrder, key_cmp-IsAntisymmetric}
use Rattle.epx_types.proofs.keys.KeyListLemmas.{key_cmp-cases}

-- contents in which each key has the same value are equal
pub Contents-extensional : (c d : Contents) → ((q : List ℕ) → contents.get c q ≡ contents.get d q)
    → c ≡ d
Contents-extensional c d same = same_map key_cmp-IsTotalOrder key_cmp-IsAntisymmetric c d same

-- the value of a key after an assignment
pub get-assign : (c : Contents) (k : List ℕ) (v : Option ℤ) (q : List ℕ)
    → contents.get (assign c k v) q ≡ cond (eq_by_cmp key_cmp q k) v (contents.get c q)
get-assign c k None q = get-remove key_cmp-IsTotalOrder c k q
get-assign c k (Some v) q = get-insert key_cmp-IsTotalOrder c k v q

-- an assignment changes only its key
pub get-assign_cases : (c : Contents) (k : List ℕ) (v : Option ℤ) (q : List ℕ)
    → (q ≡ k) × (contents.get (assign c k v) q ≡ v) ⊎ (¬ (q ≡ k))
    × (contents.get (assign c k v) q ≡ contents.get c q)
get-assign_cases c k v q =
    elim (key_cmp-cases q k) [
      | inl tied ↦ inl (tied.1, get-assign c k v q ∙ ap (λ b. cond b v (contents.get c q)) tied.0)
      | inr other ↦ inr (
        other.1,
        get-assign c k v q
            ∙ ap (λ b. cond b v (contents.get c q)) other.0,
      )
    ]

-- if a key has the same value in both contents, it has the same value after the same assignment to
-- both
pub get-assign_agree : (c d : Contents) (k : List ℕ) (v : Option ℤ) (q : List ℕ)
    → contents.get c q ≡ contents.get d q
    → contents.get (assign c k v) q ≡ contents.get (assign d k v) q
get-assign_agree c d k v q same = get-assign c k v q ∙ ap (cond (eq_by_cmp key_cmp q k) v) same
    ∙ sym (get-assign d k v q)

-- a key has the value of `after` if it is written, or had that value before
pub get-apply_writes : (ks : List (List ℕ)) (after c : Contents) (q : List ℕ)
    → Contains ks q ⊎ (contents.get c q ≡ contents.get after q)
    → contents.get (apply_writes (map (λ k. (k, contents.get after k)) ks) c) q
    ≡ contents.get after q
get-apply_writes [] after c q (inl h) = absurd (Contains-nil q h)
get-apply_writes [] after c q (inr had) = had
get-apply_writes (k ∷ ks) after c q h =
    let next = assign c k (contents.get after k) in
    get-apply_writes ks after next q (elim (get-assign_cases c k (contents.get after k) q) [
      | inl here ↦ inr (here.1 ∙ ap (contents.get after) (sym here.0))
      | inr other ↦ elim h [
        | inl among ↦ elim (Contains-cons_cases k ks q among)
            [ inl same ↦ absurd (other.0 (sym same)) | inr rest ↦ inl rest ]
        | inr had ↦ inr (other.1 ∙ had)
      ]
    ])
