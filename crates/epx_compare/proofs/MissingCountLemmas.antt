-- Counts of dependents, as a map stores them.
use Rattle.std.proofs.Common.{◌≡◌, ◌∙◌, inl, inr, ℕ, ◌+◌, zero, suc, Bool, true, false, not, ◌&&◌}
use Rattle.std.proofs.Common.{◌||◌, List, [], ◌∷◌, take, Contains, Some, slice_get, refl, sym, ap}
use Rattle.std.proofs.Common.{subst, if◌then◌else◌, count_by, Ordering, Less, Equal, Greater, is_lt}
use Rattle.std.proofs.Common.{is_eq}
use Rattle.epx_types.proofs.Common.{IsEquivalence, list_any, cases_Bool, count_by_more_no}
use Rattle.epx_types.proofs.Common.{count_by_more_yes, slice_get_within, get_or_from_slice_get}
use Rattle.epx_types.proofs.Common.{Below, IsRising, id_cmp, AllPairs-head, Contains-slice_get}
use Rattle.epx_types.proofs.Common.{AllPairs-from_IsRising, id_eq-Decides}
use Rattle.epx_types.specs.declared.id.Id.{Id}
use Rattle.std.specs.Cmp.{decided}
use Rattle.std.proofs.lemmas.List.Folds.{list_any_more}
use Rattle.epx_types.specs.contracts.id.IdPartialEq.TheImpl as id_eq
use Rattle.epx_versions.specs.SameInstances.{same_id}
use Rattle.epx_versions.specs.inner.EqualVersions.{same_id-decides}
use Rattle.epx_compare.specs.inner.MissingCounts.{stored, AreCounts, with_one, is_missing}
use Rattle.epx_compare.proofs.DependencyLemmas.{list_any-same_id, Contains-from_same_id}

pub IsEquivalence-id_eq : IsEquivalence id_eq.eq-value.it
IsEquivalence-id_eq = decided id_eq.eq-value.it id_eq-Decides

-- entries with the counts of f are those of g too, if f and g count each Id alike
pub AreCounts-agree : (f g : Id → ℕ) (es : List (Id × ℕ)) → ((x : Id) → f x ≡ g x) → AreCounts f es
    → AreCounts g es
AreCounts-agree f g es same counts x = counts x ∙ ap stored (same x)

-- one more instance
pub count_by-take_more : (p : Id → Bool) (ids : List Id) (k : ℕ) (y : Id) (b : Bool)
    → slice_get ids k ≡ Some y → b ≡ p y
    → (if b then count_by p (take k ids) + 1 else count_by p (take k ids))
    ≡ count_by p (take (k + 1) ids)
count_by-take_more p ids k y true here same =
    let within = slice_get_within ids k y here in
    let test = ap p (get_or_from_slice_get ids k y y here) ∙ sym same in
    sym (count_by_more_yes p ids k y within test)
count_by-take_more p ids k y false here same =
    let within = slice_get_within ids k y here in
    let test = ap p (get_or_from_slice_get ids k y y here) ∙ sym same in
    sym (count_by_more_no p ids k y within test)

-- ---- one more dependency

skip_test : (h a s : Bool) → (s ≡ true → h ≡ true) → (not h && a) ≡ (not h && (a || s))
skip_test true a s own = refl
skip_test false true s own = refl
skip_test false false false own = refl
skip_test false false true own = absurd (cc (own refl))

count_test : (h a s : Bool) (n : ℕ) → (s ≡ true → h ≡ false) → (s ≡ true → a ≡ false)
    → (if s then (if not h && a then n + 1 else n) + 1 else (if not h && a then n + 1 else n))
    ≡ (if not h && (a || s) then n + 1 else n)
count_test true a true n own new = absurd (cc (own refl))
count_test true a false n own new = refl
count_test false true true n own new = absurd (cc (new refl))
count_test false true false n own new = refl
count_test false false true n own new = refl
count_test false false false n own new = refl

apart : (r : Ordering) → is_lt r ≡ true → is_eq r ≡ false
apart Less h = refl
apart Equal h = absurd (cc h)
apart Greater h = absurd (cc h)

neither : (a b : Bool) → a ≡ false → b ≡ false → (a || b) ≡ false
neither a b p q = cc

-- a dependency is not among those before it
not_before : (deps : List Id) → IsRising deps → (i : ℕ) (x : Id) → slice_get deps i ≡ Some x
    → list_any (λ d. same_id d x) (take i deps) ≡ false
not_before [] rising i x h = absurd (cc h)
not_before (d ∷ deps) rising zero x h = refl
not_before (d ∷ deps) rising (suc i) x h =
    neither (same_id d x) (list_any (λ e. same_id e x) (take i deps))
    (apart (id_cmp d x) (AllPairs-head Below d deps x (AllPairs-from_IsRising (d ∷ deps) rising)
    (Contains-slice_get deps i x h)))
    (not_before deps rising.1 i x h)

module _ (ids deps : List Id) (i : ℕ) (d : Id) (here : slice_get deps i ≡ Some d) where
  with_next : (x : Id) → list_any (λ e. same_id e x) (take (i + 1) deps)
      ≡ (list_any (λ e. same_id e x) (take i deps) || same_id d x)
  with_next x = list_any_more (λ e. same_id e x) deps i d (slice_get_within deps i d here)
      ∙ ap (λ e. list_any (λ e. same_id e x) (take i deps) || same_id e x)
      (get_or_from_slice_get deps i d d here)

  -- a committed one changes no count
  pub with_one-committed : Contains ids d → (counted : Id → ℕ) (x : Id)
      → with_one (is_missing ids (take i deps)) counted x
      ≡ with_one (is_missing ids (take (i + 1) deps)) counted x
  with_one-committed among counted x =
      ap (λ b. if b then counted x + 1 else counted x)
      (skip_test (list_any (same_id x) ids) (list_any (λ e. same_id e x) (take i deps))
      (same_id d x) (λ same. list_any-same_id x ids
      (subst (Contains ids) ((same_id-decides d x).0 same) among))
      ∙ ap (λ b. not (list_any (same_id x) ids) && b) (sym (with_next x)))

  -- one that is not committed is counted once more
  pub with_one-missing : IsRising deps → ¬ Contains ids d → (counted : Id → ℕ) (x : Id)
      → with_one (same_id d) (with_one (is_missing ids (take i deps)) counted) x
      ≡ with_one (is_missing ids (take (i + 1) deps)) counted x
  with_one-missing rising missing counted x =
      count_test (list_any (same_id x) ids) (list_any (λ e. same_id e x) (take i deps))
      (same_id d x) (counted x) (λ same. not_listed x (λ h. missing
      (subst (Contains ids) (sym ((same_id-decides d x).0 same)) h)))
      (λ same. subst (λ (y : Id). list_any (λ e. same_id e y) (take i deps) ≡ false)
      ((same_id-decides d x).0 same) (not_before deps rising i d here))
      ∙ ap (λ b. if not (list_any (same_id x) ids) && b then counted x + 1 else counted x)
      (sym (with_next x))
    where
      not_listed : (y : Id) → ¬ Contains ids y → list_any (same_id y) ids ≡ false
      not_listed y none = elim (cases_Bool (list_any (same_id y) ids)) [
        | inl has ↦ absurd (none (Contains-from_same_id y ids has))
        | inr not_has ↦ not_has
      ]

  -- it is not counted yet
  pub with_one-not_counted : IsRising deps → (counted : Id → ℕ)
      → with_one (is_missing ids (take i deps)) counted d ≡ counted d
  with_one-not_counted rising counted =
      ap (λ b. if not (list_any (same_id d) ids) && b then counted d + 1
      else counted d) (not_before deps rising i d here)
      ∙ none_added (list_any (same_id d) ids)
    where
      none_added : (b : Bool) → (if not b && false then counted d + 1 else counted d) ≡ counted d
      none_added true = refl
      none_added false = refl
