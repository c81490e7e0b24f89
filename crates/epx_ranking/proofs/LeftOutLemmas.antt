-- The least sequence key of each component, among the nodes that a list leaves out.
use Rattle.std.proofs.Common.{◌≡◌, ◌≢◌, ℕ, ◌+◌, ◌<◌, ◌⊎◌, inl, inr, List, Bool, length, get_or, set}
use Rattle.std.proofs.Common.{slice_get, Option, Some, None, true, refl, sym, subst, ◌∙◌, ap, arith}
use Rattle.std.proofs.Common.{is_lt, IsTrue}
use Rattle.epx_types.proofs.Common.{cases_lt, length-set, Instance, is_lt-irrefl, is_lt-trans}
use Rattle.epx_ranking.specs.declared.check.sequence_key.SequenceKey.{SequenceKey}
use Rattle.epx_ranking.specs.inner.SequenceKeys.{sequence_key_of, sequence_key_cmp, ComesAfter}
use Rattle.epx_ranking.specs.inner.SequenceKeys.{key_for, AreLeftOut}
use Rattle.epx_ranking.proofs.SequenceKeyLemmas.{sequence_key_cmp-total}
use Rattle.epx_ranking.proofs.SequenceKeyLemmas.{sequence_key_cmp-before_later}
use Rattle.epx_components.specs.between.Partitions.{ComponentParts, component_of}
use Rattle.epx_components.specs.between.ReadyMarks.{is_marked}
use Rattle.epx_components.proofs.PartitionLemmas.{get_or-set_component}

module _ (m : List Instance) (p : ComponentParts) (marks : List Bool) (n : ℕ)
    (left_out : List (Option SequenceKey)) (old : AreLeftOut m p marks n left_out) where
  abbrev IsLeftOutBelow : ℕ → ℕ → SequenceKey → Type 0
  IsLeftOutBelow limit k t = (j : ℕ) × (e : Instance) × (j < limit)
      × (¬ IsTrue (is_marked marks j)) × (component_of p j ≡ component_of p k)
      × (slice_get m j ≡ Some e) × (sequence_key_of e ≡ t)

  further : (k : ℕ) (t : SequenceKey) → key_for p left_out k ≡ Some t
      → IsLeftOutBelow (n + 1) k t
  further k t h = let was = old.from k t h in
      (was.0, was.1, omega (arith, was.2), was.3, was.4, was.5, was.6)

  module _ (e : Instance) (at : slice_get m n ≡ Some e) where
    same_instance : (j : ℕ) (f : Instance) → j ≡ n → slice_get m j ≡ Some f → f ≡ e
    same_instance j f now to =
        let same : Some f ≡ Some e = sym to ∙ ap (slice_get m) now ∙ at in cc same

    -- a node with a greater key than another one of its component changes nothing
    pub AreLeftOut-kept : ComesAfter (sequence_key_of e) (key_for p left_out n)
        → AreLeftOut m p marks (n + 1) left_out
    AreLeftOut-kept h = by (key_for p left_out n) refl h where
      by : (o : Option SequenceKey) → key_for p left_out n ≡ o → ComesAfter (sequence_key_of e) o
          → AreLeftOut m p marks (n + 1) left_out
      by None is h = absurd h
      by (Some t) is h = record {
        whole = old.whole;
        from = further;
        under = λ j f l unmarked at_f. elim (cases_lt j n) [
          | inl past ↦ old.under j f past unmarked at_f
          | inr now ↦
              let same : j ≡ n = omega arith in (
                t,
                ap (key_for p left_out) same ∙ is,
                λ lower.
                    is_lt-irrefl sequence_key_cmp-total t
                    (is_lt-trans sequence_key_cmp-total t (sequence_key_of e) t h
                    (subst (λ f. is_lt (sequence_key_cmp (sequence_key_of f) t) ≡ true)
                    (same_instance j f same at_f) lower)),
              )
        ];
      }

    -- any other node that is not listed has the least key of its component
    pub AreLeftOut-step : component_of p n < length left_out → ¬ IsTrue (is_marked marks n)
        → ¬ ComesAfter (sequence_key_of e) (key_for p left_out n)
        → AreLeftOut m p marks (n + 1)
        (set left_out (component_of p n) (Some (sequence_key_of e)))
    AreLeftOut-step in' unmarked none = record {
      whole = length-set left_out own (Some (sequence_key_of e)) ∙ old.whole;
      from = λ k t h. elim (cases k) [
        | inl here ↦
            let same : Some (sequence_key_of e) ≡ Some t = sym here.1 ∙ h in
            (n, e, omega arith, unmarked, sym here.0, at, cc same)
        | inr there ↦ further k t (sym there.1 ∙ h)
      ];
      under = λ j f l unmarked_j at_f. elim (cases_lt j n) [
        | inl past ↦
            let was = old.under j f past unmarked_j at_f in
            elim (cases j) [
              | inl here ↦ (
                sequence_key_of e,
                here.1,
                λ lower.
                    let own_is : key_for p left_out n ≡ Some was.0 =
                    ap (λ c. get_or left_out c None) (sym here.0) ∙ was.1 in
                    let not_after : ¬ (is_lt (sequence_key_cmp was.0 (sequence_key_of e)) ≡ true)
                    = λ after. none (subst (ComesAfter (sequence_key_of e)) (sym own_is) after) in
                    was.2 (sequence_key_cmp-before_later (sequence_key_of f) (sequence_key_of e)
                    was.0 lower
                    not_after),
              )
              | inr there ↦ (was.0, there.1 ∙ was.1, was.2)
            ]
        | inr now ↦
            let same : j ≡ n = omega arith in
            elim (cases j) [
              | inl here ↦ (
                sequence_key_of e,
                here.1,
                λ lower. is_lt-irrefl sequence_key_cmp-total (sequence_key_of e)
                    (subst (λ f. is_lt (sequence_key_cmp (sequence_key_of f) (sequence_key_of e))
                    ≡ true) (same_instance j f same at_f) lower),
              )
              | inr there ↦ absurd (there.0 (ap (component_of p) same))
            ]
      ];
    } where
      own : ℕ
      own = component_of p n

      cases : (k : ℕ)
          → ((component_of p k ≡ own)
          × (key_for p (set left_out own (Some (sequence_key_of e))) k
          ≡ Some (sequence_key_of e)))
          ⊎ ((component_of p k ≢ own)
          × (key_for p (set left_out own (Some (sequence_key_of e))) k ≡ key_for p left_out k))
      cases = get_or-set_component None p left_out n (Some (sequence_key_of e)) in'
