-- The accesses of a command are exactly its touched keys, and its write accesses are exactly its
-- written keys.
use Rattle.std.proofs.Common.{◌≡◌, ℕ, Bool, true, List, [], ◌∷◌, ◌++◌, map, filter, flat_map}
use Rattle.std.proofs.Common.{Contains, refl, sym, ap, subst, ◌∙◌, inl, inr}
use Rattle.epx_types.proofs.Common.{map-append, Contains-append_left, Contains-append_right}
use Rattle.epx_types.proofs.Common.{Contains-append_cases, accesses_of, touched_by, written_by}
use Rattle.epx_types.proofs.Common.{Contains-nil, Contains-map, Contains-from_map, Contains-filter}
use Rattle.epx_types.proofs.Common.{Contains-from_filter, passes-from_filter}
use Rattle.epx_types.specs.declared.op.Op.{Op}
use Rattle.epx_apply.specs.between.KeyTables.{touched_in, written_in}

-- ---- touched keys

touched_is : (ops : List Op) → touched_in ops ≡ map (λ a. a.0) (flat_map accesses_of ops)
touched_is [] = refl
touched_is (op ∷ ops) = ap (λ ys. touched_by op ++ ys) (touched_is ops)
    ∙ sym (map-append (λ (a : List ℕ × Bool). a.0) (accesses_of op) (flat_map accesses_of ops))

-- a touched key is accessed
pub current-from_touched : (ops : List Op) (k : List ℕ) → Contains (touched_in ops) k
    → (w : Bool) × Contains (flat_map accesses_of ops) (k, w)
current-from_touched ops k h =
    let from = Contains-from_map (λ (a : List ℕ × Bool). a.0) (flat_map accesses_of ops) k
    (subst (λ (ks : List (List ℕ)). Contains ks k) (touched_is ops) h) in
    (from.0.1, subst (λ q. Contains (flat_map accesses_of ops) (q, from.0.1)) from.2 from.1)

-- an accessed key is touched
pub touched-from_accesses : (ops : List Op) (k : List ℕ) (w : Bool)
    → Contains (flat_map accesses_of ops) (k, w) → Contains (touched_in ops) k
touched-from_accesses ops k w h =
    subst (λ (ks : List (List ℕ)). Contains ks k) (sym (touched_is ops))
    (Contains-map (λ (a : List ℕ × Bool). a.0) (flat_map accesses_of ops) (k, w) h)

-- ---- written keys

Contains-flat_map_carried : {X A B : Type 0} (f : X → List A) (g : X → List B) (a : A) (b : B)
    → ((x : X) → Contains (f x) a → Contains (g x) b) → (xs : List X) → Contains (flat_map f xs) a
    → Contains (flat_map g xs) b
Contains-flat_map_carried f g a b carry [] h = absurd (Contains-nil a h)
Contains-flat_map_carried f g a b carry (x ∷ xs) h =
    elim (Contains-append_cases (f x) (flat_map f xs) a h) [
      | inl here ↦ Contains-append_left (g x) (flat_map g xs) b (carry x here)
      | inr later ↦ Contains-append_right (g x) (flat_map g xs) b
          (Contains-flat_map_carried f g a b carry xs later)
    ]

module _ (k : List ℕ) where
  there_by : (op : Op) → Contains (written_by op) k → Contains (accesses_of op) (k, true)
  there_by op h =
      let from = Contains-from_map (λ (a : List ℕ × Bool). a.0)
      (filter (λ a. a.1) (accesses_of op)) k h in
      let writes = passes-from_filter (λ (a : List ℕ × Bool). a.1) (accesses_of op) from.0 from.1 in
      let here = Contains-from_filter (λ (a : List ℕ × Bool). a.1) (accesses_of op) from.0 from.1 in
      subst (λ q. Contains (accesses_of op) (q, true)) from.2
      (subst (λ w. Contains (accesses_of op) (from.0.0, w)) writes here)

  back_by : (op : Op) → Contains (accesses_of op) (k, true) → Contains (written_by op) k
  back_by op h =
      let access : List ℕ × Bool = (k, true) in
      Contains-map (λ (a : List ℕ × Bool). a.0) (filter (λ a. a.1) (accesses_of op)) access
      (Contains-filter (λ (a : List ℕ × Bool). a.1) (accesses_of op) access h refl)

-- a written key has a write access
pub current-from_written : (ops : List Op) (k : List ℕ) → Contains (written_in ops) k
    → Contains (flat_map accesses_of ops) (k, true)
current-from_written ops k h = Contains-flat_map_carried written_by accesses_of k (k, true)
    (there_by k) ops h

pub written-from_accesses : (ops : List Op) (k : List ℕ)
    → Contains (flat_map accesses_of ops) (k, true) → Contains (written_in ops) k
written-from_accesses ops k h =
    Contains-flat_map_carried accesses_of written_by (k, true) k (back_by k) ops h

pub touched-from_written : (ops : List Op) (k : List ℕ) → Contains (written_in ops) k
    → Contains (touched_in ops) k
touched-from_written ops k h = touched-from_accesses ops k true (current-from_written ops k h)
