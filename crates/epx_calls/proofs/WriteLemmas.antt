-- Two writes under different keys.
use Rattle.std.proofs.Common.{◌≡◌, ◌≢◌, ℕ, ℤ, false, List, [], ◌∷◌, ◌++◌, Option, sym, subst, inl}
use Rattle.std.proofs.Common.{inr, All, AllPairs, arith}
use Rattle.epx_types.proofs.Common.{eq_by_cmp, All-nil, All-cons, key_cmp, HasDistinctKeys}
use Rattle.epx_types.proofs.Common.{key_cmp-cases}
use Rattle.std.proofs.lemmas.List.Kept.{AllPairs-cons}
use Rattle.epx_types.specs.Writes.{Write}

differs : (j k : List ℕ) → eq_by_cmp key_cmp j k ≡ false → j ≢ k
differs j k e =
    elim (key_cmp-cases j k) [ inl tied ↦ absurd (cc (e, tied.0)) | inr other ↦ other.1 ]

-- no key is in them twice
pub HasDistinctKeys-pair : (vs ws : List Write) (j k : List ℕ) (v w : Option ℤ) → vs ≡ (j, v) ∷ []
    → ws ≡ (k, w) ∷ [] → eq_by_cmp key_cmp j k ≡ false → HasDistinctKeys (vs ++ (ws ++ []))
HasDistinctKeys-pair vs ws j k v w first second e =
    let Apart : Write → Write → Type 0 = λ x y. x.0 ≢ y.0 in
    let others : All (Apart (j, v)) ((k, w) ∷ []) =
    All-cons (Apart (j, v)) (k, w) [] (differs j k e) (All-nil (Apart (j, v))) in
    let last : AllPairs Apart ((k, w) ∷ []) =
    AllPairs-cons Apart (k, w) [] (All-nil (Apart (k, w)))
    (λ a b d p q. absurd (omega arith)) in
    let P : List Write → List Write → Type 0 = λ x y. HasDistinctKeys (x ++ (y ++ [])) in
    subst (λ (x : List Write). P x ws) (sym first)
    (subst (λ (y : List Write). P ((j, v) ∷ []) y) (sym second)
    (AllPairs-cons Apart (j, v) ((k, w) ∷ []) others last))
