-- The greatest sequence key of each component, among the nodes of a list.
use Rattle.std.proofs.Common.{◌≡◌, ◌≢◌, ℕ, ◌+◌, ◌<◌, ◌⊎◌, inl, inr, List, length, get_or, set}
use Rattle.std.proofs.Common.{slice_get, Option, Some, None, true, refl, sym, subst, ◌∙◌, ap, arith}
use Rattle.std.proofs.Common.{is_lt}
use Rattle.epx_types.proofs.Common.{nat_cmp_total, cases_lt, length-set, Instance, is_lt-irrefl}
use Rattle.epx_types.proofs.Common.{is_lt-trans, is_lt-cases, id_cmp-IsTotalOrder}
use Rattle.epx_types.proofs.Common.{id_cmp-IsAntisymmetric}
use Rattle.epx_types.proofs.Common.{ordering_then-first_equal, ordering_then-second_equal}
use Rattle.std.specs.Cmp.{IsTotalOrder, on_total, then_total}
use Rattle.std.specs.FinMap.{IsAntisymmetric, nat_cmp-IsAntisymmetric}
use Rattle.epx_ranking.specs.declared.check.sequence_key.SequenceKey.{SequenceKey}
use Rattle.epx_components.specs.between.Partitions.{ComponentParts, component_of}
use Rattle.epx_ranking.specs.inner.SequenceKeys.{sequence_key_of, sequence_key_cmp, ComesBefore}
use Rattle.epx_ranking.specs.inner.SequenceKeys.{IsNodeEarlyAt, IsNodeOvertakenAt, AreNodesInOrder}
use Rattle.epx_ranking.specs.inner.SequenceKeys.{IsNodeOutOfSequenceAt}
use Rattle.epx_components.proofs.PartitionLemmas.{get_or-set_component}

abbrev pub latest_in : ComponentParts → List (Option SequenceKey) → ℕ → Option SequenceKey
latest_in p latest k = get_or latest (component_of p k) None

-- for each component, the greatest sequence key of its nodes among the first n of the list
pub record AreLatest (m : List Instance) (p : ComponentParts) (nodes : List ℕ) (n : ℕ)
    (latest : List (Option SequenceKey)) : Type 0 where
  pub whole : length latest ≡ p.count
  pub from : (k : ℕ) (t : SequenceKey) → latest_in p latest k ≡ Some t
      → (j : ℕ) × (e : Instance) × (j < n) × (component_of p (get_or nodes j 0) ≡ component_of p k)
      × (slice_get m (get_or nodes j 0) ≡ Some e) × (sequence_key_of e ≡ t)
  pub over : (j : ℕ) (e : Instance) → j < n → slice_get m (get_or nodes j 0) ≡ Some e
      → (t : SequenceKey) × (latest_in p latest (get_or nodes j 0) ≡ Some t)
      × ¬ (is_lt (sequence_key_cmp t (sequence_key_of e)) ≡ true)

pub sequence_key_cmp-total : IsTotalOrder sequence_key_cmp
sequence_key_cmp-total = then_total (on_total (λ (t : SequenceKey). t.seq) nat_cmp_total)
    (on_total (λ (t : SequenceKey). t.id) id_cmp-IsTotalOrder)

sequence_key_cmp-IsAntisymmetric : IsAntisymmetric sequence_key_cmp
sequence_key_cmp-IsAntisymmetric a b e =
    let seq = nat_cmp-IsAntisymmetric a.seq b.seq (ordering_then-first_equal _ _ e) in
    let id = id_cmp-IsAntisymmetric a.id b.id (ordering_then-second_equal _ _ e) in
    λ i. record { seq = seq i; id = id i }

-- a key less than another is less than each that is not less than the other
pub sequence_key_cmp-before_later : (a b c : SequenceKey) → is_lt (sequence_key_cmp a b) ≡ true
    → ¬ (is_lt (sequence_key_cmp c b) ≡ true) → is_lt (sequence_key_cmp a c) ≡ true
sequence_key_cmp-before_later a b c lower not =
    elim (is_lt-cases sequence_key_cmp-total sequence_key_cmp-IsAntisymmetric c b) [
      | inl l ↦ absurd (not l)
      | inr (inl same) ↦ subst (λ t. is_lt (sequence_key_cmp a t) ≡ true) (sym same) lower
      | inr (inr l) ↦ is_lt-trans sequence_key_cmp-total a b c lower l
    ]

-- a key that is not greater than the lesser of two is less than the greater
pub sequence_key_cmp-least_before : (a b c : SequenceKey) → is_lt (sequence_key_cmp a b) ≡ true
    → ¬ (is_lt (sequence_key_cmp a c) ≡ true) → is_lt (sequence_key_cmp c b) ≡ true
sequence_key_cmp-least_before a b c lower not =
    elim (is_lt-cases sequence_key_cmp-total sequence_key_cmp-IsAntisymmetric a c) [
      | inl l ↦ absurd (not l)
      | inr (inl same) ↦ subst (λ t. is_lt (sequence_key_cmp t b) ≡ true) same lower
      | inr (inr l) ↦ is_lt-trans sequence_key_cmp-total c a b l lower
    ]

module _ (m : List Instance) (p : ComponentParts) (nodes : List ℕ) (n : ℕ)
    (latest : List (Option SequenceKey)) (old : AreLatest m p nodes n latest) (e : Instance)
    (at : slice_get m (get_or nodes n 0) ≡ Some e) where
  same_instance : (f : Instance) → slice_get m (get_or nodes n 0) ≡ Some f → f ≡ e
  same_instance f to = let same : Some f ≡ Some e = sym to ∙ at in cc same

  pub IsNodeOvertakenAt-from_latest : ComesBefore (sequence_key_of e)
      (latest_in p latest (get_or nodes n 0)) → IsNodeOvertakenAt m p nodes n
  IsNodeOvertakenAt-from_latest h = by (latest_in p latest (get_or nodes n 0)) refl h where
    by : (o : Option SequenceKey) → latest_in p latest (get_or nodes n 0) ≡ o
        → ComesBefore (sequence_key_of e) o → IsNodeOvertakenAt m p nodes n
    by None is h = absurd h
    by (Some t) is h =
        let found = old.from (get_or nodes n 0) t is in (
          found.0,
          found.2,
          found.3,
          (
            e,
            found.1,
            at,
            found.4,
            subst (λ t. is_lt (sequence_key_cmp (sequence_key_of e) t) ≡ true) (sym found.5) h,
          ),
        )

  pub ComesBefore-from_overtaken : IsNodeOvertakenAt m p nodes n
      → ComesBefore (sequence_key_of e) (latest_in p latest (get_or nodes n 0))
  ComesBefore-from_overtaken (j, l, same, (d, f, at_d, at_f, lower)) =
      let found = old.over j f l at_f in
      let here : latest_in p latest (get_or nodes n 0) ≡ Some found.0 =
      ap (λ c. get_or latest c None) (sym same) ∙ found.1 in
      let own = subst (λ d. is_lt (sequence_key_cmp (sequence_key_of d) (sequence_key_of f))
      ≡ true) (same_instance d at_d) lower in
      subst (ComesBefore (sequence_key_of e)) (sym here)
      (sequence_key_cmp-before_later (sequence_key_of e) (sequence_key_of f) found.0 own found.2)

  pub AreLatest-step : component_of p (get_or nodes n 0) < length latest
      → ¬ ComesBefore (sequence_key_of e) (latest_in p latest (get_or nodes n 0))
      → AreLatest m p nodes (n + 1)
      (set latest (component_of p (get_or nodes n 0)) (Some (sequence_key_of e)))
  AreLatest-step in' none = record {
    whole = length-set latest own (Some (sequence_key_of e)) ∙ old.whole;
    from = λ k t h. elim (cases k) [
      | inl here ↦
          let same : Some (sequence_key_of e) ≡ Some t = sym here.1 ∙ h in
          (n, e, omega arith, sym here.0, at, cc same)
      | inr there ↦
          let was = old.from k t (sym there.1 ∙ h) in
          (was.0, was.1, omega (arith, was.2), was.3, was.4, was.5)
    ];
    over = λ j f l at_f. elim (cases_lt j n) [
      | inl past ↦
          let was = old.over j f past at_f in
          elim (cases (get_or nodes j 0)) [
            | inl here ↦ (
              sequence_key_of e,
              here.1,
              λ lower.
                  let latest_is : latest_in p latest (get_or nodes n 0) ≡ Some was.0 =
                  ap (λ c. get_or latest c None) (sym here.0) ∙ was.1 in
                  none (subst (ComesBefore (sequence_key_of e)) (sym latest_is)
                  (sequence_key_cmp-before_later (sequence_key_of e) (sequence_key_of f) was.0 lower
                  was.2)),
            )
            | inr there ↦ (was.0, there.1 ∙ was.1, was.2)
          ]
      | inr now ↦
          let same : j ≡ n = omega arith in
          let position : get_or nodes j 0 ≡ get_or nodes n 0 = ap (λ x. get_or nodes x 0) same in
          let one = same_instance f (ap (slice_get m) (sym position) ∙ at_f) in
          elim (cases (get_or nodes j 0)) [
            | inl here ↦ (
              sequence_key_of e,
              here.1,
              λ lower. is_lt-irrefl sequence_key_cmp-total (sequence_key_of e)
                  (subst (λ f. is_lt (sequence_key_cmp (sequence_key_of e) (sequence_key_of f))
                  ≡ true) one lower),
            )
            | inr there ↦ absurd (there.0 (ap (component_of p) position))
          ]
    ];
  } where
    own : ℕ
    own = component_of p (get_or nodes n 0)

    cases : (k : ℕ)
        → ((component_of p k ≡ own)
        × (latest_in p (set latest own (Some (sequence_key_of e))) k ≡ Some (sequence_key_of e)))
        ⊎ ((component_of p k ≢ own)
        × (latest_in p (set latest own (Some (sequence_key_of e))) k ≡ latest_in p latest k))
    cases = get_or-set_component None p latest (get_or nodes n 0) (Some (sequence_key_of e)) in'

-- one more position
pub AreNodesInOrder-step : (m : List Instance) (p : ComponentParts)
    (left_out : List (Option SequenceKey)) (below nodes : List ℕ) (n : ℕ)
    → ¬ IsNodeEarlyAt p below nodes n → ¬ IsNodeOutOfSequenceAt m p left_out nodes n
    → AreNodesInOrder m p left_out below nodes n → AreNodesInOrder m p left_out below nodes (n + 1)
AreNodesInOrder-step m p left_out below nodes n ahead wrong old i l = elim (cases_lt i n) [
  | inl past ↦ old i past
  | inr now ↦
      let same : n ≡ i = omega arith in
      subst (λ i. (¬ IsNodeEarlyAt p below nodes i)
      × (¬ IsNodeOutOfSequenceAt m p left_out nodes i)) same (ahead, wrong)
]
