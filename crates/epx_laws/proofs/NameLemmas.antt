-- Finitely many names, each given once, extend to an injective function.
use Rattle.std.proofs.Common.{◌≡◌, ◌≢◌, ◌⊎◌, ℕ, ℤ, List, [], ◌∷◌, Contains, refl, sym, ap, ◌∙◌}
use Rattle.std.proofs.Common.{subst, inl, inr}
use Rattle.std.specs.Ordering.{int_eq}
use Rattle.std.proofs.lemmas.Bool.Decides.{Decides-int_eq}
use Rattle.epx_types.proofs.Common.{All-contains, key_cmp-cases, AllPairs-first, AllPairs-tail}
use Rattle.epx_types.proofs.Common.{Contains-nil, Contains-cons_cases}
use Rattle.epx_types.proofs.commands.EqualityLemmas.{Decides-cases}
use Rattle.epx_laws.specs.Renaming.{IsInjective, Renaming}
use Rattle.epx_laws.specs.RenamingLaws.{AreOneToOne, GivesNames}

module _ {X : Type 0} (equal : (x y : X) → (x ≡ y) ⊎ (x ≢ y)) where
  -- ---- the exchange of two names

  exchange : (a b x : X) → (x ≡ a) ⊎ (x ≢ a) → (x ≡ b) ⊎ (x ≢ b) → X
  exchange a b x (inl first) second = b
  exchange a b x (inr not_first) (inl second) = a
  exchange a b x (inr not_first) (inr not_second) = x

  abbrev exchanged : X → X → X → X
  exchanged a b x = exchange a b x (equal x a) (equal x b)

  exchange_cases : (a b x : X) (p : (x ≡ a) ⊎ (x ≢ a)) (q : (x ≡ b) ⊎ (x ≢ b))
      → ((x ≡ a) × (exchange a b x p q ≡ b)) ⊎ (((x ≡ b) × (exchange a b x p q ≡ a))
      ⊎ ((x ≢ a) × (x ≢ b) × (exchange a b x p q ≡ x)))
  unfolding exchange
  exchange_cases a b x (inl first) q = inl (first, refl)
  exchange_cases a b x (inr not_first) (inl second) = inr (inl (second, refl))
  exchange_cases a b x (inr not_first) (inr not_second) =
      inr (inr (not_first, not_second, refl))

  exchanged_cases : (a b x : X) → ((x ≡ a) × (exchanged a b x ≡ b))
      ⊎ (((x ≡ b) × (exchanged a b x ≡ a)) ⊎ ((x ≢ a) × (x ≢ b) × (exchanged a b x ≡ x)))
  exchanged_cases a b x = exchange_cases a b x (equal x a) (equal x b)

  exchanged-first : (a b : X) → exchanged a b a ≡ b
  exchanged-first a b =
      elim (exchanged_cases a b a) [
        | inl first ↦ first.1
        | inr (inl second) ↦ second.1 ∙ second.0
        | inr (inr other) ↦ absurd (other.0 refl)
      ]

  exchanged-other : (a b x : X) → x ≢ a → x ≢ b → exchanged a b x ≡ x
  exchanged-other a b x not_first not_second =
      elim (exchanged_cases a b x) [
        | inl first ↦ absurd (not_first first.0)
        | inr (inl second) ↦ absurd (not_second second.0)
        | inr (inr other) ↦ other.2
      ]

  exchanged-IsInjective : (a b : X) → IsInjective (exchanged a b)
  exchanged-IsInjective a b x y e =
      elim (exchanged_cases a b x) [
        | inl p ↦ elim (exchanged_cases a b y) [
          | inl q ↦ p.0 ∙ sym q.0
          | inr (inl q) ↦ p.0 ∙ sym q.1 ∙ sym e ∙ p.1 ∙ sym q.0
          | inr (inr q) ↦ absurd (q.1 (sym q.2 ∙ sym e ∙ p.1))
        ]
        | inr (inl p) ↦ elim (exchanged_cases a b y) [
          | inl q ↦ p.0 ∙ sym q.1 ∙ sym e ∙ p.1 ∙ sym q.0
          | inr (inl q) ↦ p.0 ∙ sym q.0
          | inr (inr q) ↦ absurd (q.0 (sym q.2 ∙ sym e ∙ p.1))
        ]
        | inr (inr p) ↦ elim (exchanged_cases a b y) [
          | inl q ↦ absurd (p.1 (sym p.2 ∙ e ∙ q.1))
          | inr (inl q) ↦ absurd (p.0 (sym p.2 ∙ e ∙ q.1))
          | inr (inr q) ↦ sym p.2 ∙ e ∙ q.2
        ]
      ]

  -- ---- one exchange for each name

  abbrev extended : List (X × X) → X → X
  extended [] x = x
  extended (p ∷ pairs) x = exchanged (extended pairs p.0) p.1 (extended pairs x)

  extended-IsInjective : (pairs : List (X × X)) → IsInjective (extended pairs)
  extended-IsInjective [] x y e = e
  extended-IsInjective (p ∷ pairs) x y e =
      extended-IsInjective pairs x y
      (exchanged-IsInjective (extended pairs p.0) p.1 (extended pairs x) (extended pairs y) e)

  -- each has its name
  extended-names : (pairs : List (X × X)) → AreOneToOne pairs → (p : X × X) → Contains pairs p
      → extended pairs p.0 ≡ p.1
  extended-names [] apart p h = absurd (Contains-nil p h)
  extended-names (q ∷ pairs) apart p h =
      let R : X × X → X × X → Type 0 = λ a b. (a.0 ≢ b.0) × (a.1 ≢ b.1) in
      elim (Contains-cons_cases q pairs p h) [
        | inl here ↦
            let P : X × X → Type 0 = λ s. extended (q ∷ pairs) s.0 ≡ s.1 in
            subst P here (exchanged-first (extended pairs q.0) q.1)
        | inr later ↦
            let differ = All-contains (R q) pairs p (AllPairs-first R q pairs apart) later in
            let named = extended-names pairs (AllPairs-tail R q pairs apart) p later in
            ap (exchanged (extended pairs q.0) q.1) named
            ∙ exchanged-other (extended pairs q.0) q.1 p.1
            (λ e. differ.0 (extended-IsInjective pairs q.0 p.0 (sym e ∙ sym named)))
            (λ e. differ.1 (sym e))
      ]

keys_equal : (j k : List ℕ) → (j ≡ k) ⊎ (j ≢ k)
keys_equal j k = elim (key_cmp-cases j k) [ inl same ↦ inl same.1 | inr other ↦ inr other.1 ]

values_equal : (v w : ℤ) → (v ≡ w) ⊎ (v ≢ w)
values_equal v w =
    elim (Decides-cases (int_eq v w) (Decides-int_eq v w))
    [ inl same ↦ inl same.1 | inr other ↦ inr other.1 ]

pub names-renaming : (keys : List (List ℕ × List ℕ)) (values : List (ℤ × ℤ)) → AreOneToOne keys
    → AreOneToOne values → (r : Renaming) × GivesNames r keys values
names-renaming keys values apart apart' = (
  record {
    key = extended keys_equal keys;
    value = extended values_equal values;
    keys_injective = extended-IsInjective keys_equal keys;
    values_injective = extended-IsInjective values_equal values;
  },
  record {
    keys = extended-names keys_equal keys apart;
    values = extended-names values_equal values apart';
  },
)
