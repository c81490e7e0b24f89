-- Counts of Ids: there is at most one, and those of properties that exclude each other add up.
use Rattle.std.proofs.Common.{◌≡◌, ◌≢◌, ◌↔◌, ◌⊎◌, inl, inr, ℕ, ◌+◌, List, [], ◌++◌, length}
use Rattle.std.proofs.Common.{AllPairs, Contains, refl, sym, ap, subst, ◌∙◌, arith}
use Rattle.epx_types.proofs.Common.{Contains-nil, Contains-append_cases, Contains-append_left}
use Rattle.epx_types.proofs.Common.{Contains-append_right, Contains-Id_cases, AllPairs-append}
use Rattle.epx_types.proofs.Common.{IsRising-from_AllPairs, id_cmp-IsTotalOrder}
use Rattle.epx_types.proofs.Common.{id_cmp-IsAntisymmetric}
use Rattle.epx_types.proofs.Common.{length-at_most, length-append, AreThose-exists}
use Rattle.epx_types.proofs.Common.{AllPairs-rising_distinct, IsRising-is_unique}
use Rattle.epx_types.specs.declared.id.Id.{Id}
use Rattle.epx_blockers.specs.IdCounts.{IsListOf, IsCount}

pub IsCount-is_unique : (P : Id → Type 0) (n k : ℕ) → IsCount P n → IsCount P k → n ≡ k
IsCount-is_unique P n k p q =
    let same = IsRising-is_unique p.ids q.ids p.listed.rising q.listed.rising
    (λ x h. (q.listed.exact x).1 ((p.listed.exact x).0 h))
    (λ x h. (p.listed.exact x).1 ((q.listed.exact x).0 h)) in
    sym p.counted ∙ ap length same ∙ q.counted

-- a decidable property that holds only of Ids of a list
pub IsListOf-exists : (P : Id → Type 0) → ((x : Id) → P x ⊎ (¬ P x)) → (xs : List Id)
    → ((x : Id) → P x → Contains xs x) → (ids : List Id) × IsListOf P ids
IsListOf-exists P decide xs within =
    let those = AreThose-exists id_cmp-IsTotalOrder id_cmp-IsAntisymmetric P decide xs in (
      those.0,
      record {
        rising = IsRising-from_AllPairs those.0 those.1.elements_rise;
        exact = λ x. (
          λ h. (those.1.elements_only x h).1,
          λ p. those.1.elements_all x (within x p) p,
        );
      },
    )

pub IsCount-exists : (P : Id → Type 0) → ((x : Id) → P x ⊎ (¬ P x)) → (xs : List Id)
    → ((x : Id) → P x → Contains xs x) → (n : ℕ) × IsCount P n
IsCount-exists P decide xs within =
    let those = IsListOf-exists P decide xs within in
    (length those.0, record { ids = those.0; listed = those.1; counted = refl })

pub IsCount-none : (P : Id → Type 0) → ((x : Id) → ¬ P x) → IsCount P 0
IsCount-none P none = record {
  ids = [];
  listed = record {
    rising = tt;
    exact = λ x. (λ h. absurd (Contains-nil x h), λ p. absurd (none x p));
  };
  counted = refl;
}

-- the count of a property is that of an equivalent one
pub IsCount-equivalent : (P Q : Id → Type 0) (n : ℕ) → ((x : Id) → P x ↔ Q x) → IsCount P n
    → IsCount Q n
IsCount-equivalent P Q n same p = record {
  ids = p.ids;
  listed = record {
    rising = p.listed.rising;
    exact = λ x. (
      λ h. (same x).0 ((p.listed.exact x).0 h),
      λ q. (p.listed.exact x).1 ((same x).1 q),
    );
  };
  counted = p.counted;
}

-- ---- one of two properties

listed_cases : (P : Id → Type 0) (ids : List Id) → IsListOf P ids → (x : Id) → P x ⊎ (¬ P x)
listed_cases P ids is x =
    elim (Contains-Id_cases ids x) [
      | inl there ↦ inl ((is.exact x).0 there)
      | inr none ↦ inr (λ p. none ((is.exact x).1 p))
    ]

either_cases : {A B : Type 0} → A ⊎ (¬ A) → B ⊎ (¬ B) → (A ⊎ B) ⊎ (¬ (A ⊎ B))
either_cases (inl a) b = inl (inl a)
either_cases (inr no_a) (inl b) = inl (inr b)
either_cases (inr no_a) (inr no_b) = inr (λ h. elim h [ inl a ↦ no_a a | inr b ↦ no_b b ])

module _ (P Q : Id → Type 0) (n k : ℕ) (p : IsCount P n) (q : IsCount Q k)
    (apart : (x : Id) → P x → ¬ Q x) where
  together : (x : Id) → Contains (p.ids ++ q.ids) x ↔ (P x ⊎ Q x)
  together x = (
    λ h. elim (Contains-append_cases p.ids q.ids x h) [
      | inl first ↦ inl ((p.listed.exact x).0 first)
      | inr second ↦ inr ((q.listed.exact x).0 second)
    ],
    λ h. elim h [
      | inl first ↦ Contains-append_left p.ids q.ids x ((p.listed.exact x).1 first)
      | inr second ↦ Contains-append_right p.ids q.ids x ((q.listed.exact x).1 second)
    ],
  )

  together_once : AllPairs (λ x y. x ≢ y) (p.ids ++ q.ids)
  together_once =
      AllPairs-append (λ x y. x ≢ y) p.ids q.ids (AllPairs-rising_distinct p.ids p.listed.rising)
      (AllPairs-rising_distinct q.ids q.listed.rising)
      (λ x y h there same. apart x ((p.listed.exact x).0 h)
      (subst Q (sym same) ((q.listed.exact y).0 there)))

  pub IsCount-either : IsCount (λ x. P x ⊎ Q x) (n + k)
  IsCount-either =
      let both = IsListOf-exists (λ x. P x ⊎ Q x)
      (λ x. either_cases (listed_cases P p.ids p.listed x) (listed_cases Q q.ids q.listed x))
      (p.ids ++ q.ids) (λ x h. (together x).1 h) in
      let few =
      length-at_most both.0 (p.ids ++ q.ids) (AllPairs-rising_distinct both.0 both.1.rising)
      (λ x h. (together x).1 ((both.1.exact x).0 h)) in
      let many = length-at_most (p.ids ++ q.ids) both.0 together_once
      (λ x h. (both.1.exact x).1 ((together x).0 h)) in
      record {
        ids = both.0;
        listed = both.1;
        counted = omega (arith, few, many, length-append p.ids q.ids, p.counted, q.counted);
      }
