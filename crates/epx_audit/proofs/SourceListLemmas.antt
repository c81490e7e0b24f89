-- The sources, node by node.
use Rattle.std.proofs.Common.{◌≡◌, inl, inr, ℕ, ◌+◌, ◌<◌, List, [], ◌∷◌, ◌++◌, Bool, false}
use Rattle.std.proofs.Common.{length, get_or, Contains, IsTrue, sym, subst, ◌∙◌, arith}
use Rattle.epx_types.proofs.Common.{cases_lt, get_or_append_left, get_or_push, get_or_past}
use Rattle.epx_types.proofs.Common.{false≢true, length_push, Contains-push}
use Rattle.epx_types.proofs.Common.{Contains-append_left}
use Rattle.epx_components.specs.between.ReadyMarks.{is_marked}
use Rattle.epx_audit.specs.inner.Sources.{AreSources}

-- the sources below n
pub record AreSourcesBelow (ready unsettled : List Bool) (sources : List ℕ) (n : ℕ) : Type 0 where
  pub rising : (i j : ℕ) → i < j → j < length sources → get_or sources i 0 < get_or sources j 0
  pub each : (i : ℕ) → i < length sources → (get_or sources i 0 < n)
      × IsTrue (is_marked ready (get_or sources i 0))
      × IsTrue (is_marked unsettled (get_or sources i 0))
  pub whole : (k : ℕ) → k < n → IsTrue (is_marked ready k) → IsTrue (is_marked unsettled k)
      → Contains sources k

module _ (ready unsettled : List Bool) (sources : List ℕ) (n : ℕ)
    (old : AreSourcesBelow ready unsettled sources n) where
  pub AreSourcesBelow-skip : (IsTrue (is_marked ready n) → IsTrue (is_marked unsettled n) → ⊥)
      → AreSourcesBelow ready unsettled sources (n + 1)
  AreSourcesBelow-skip none = record {
    rising = old.rising;
    each = λ i l. let e = old.each i l in (omega (arith, e.0), e.1, e.2);
    whole = λ k l is_ready marked. elim (cases_lt k n) [
      | inl past ↦ old.whole k past is_ready marked
      | inr here ↦
          let same : k ≡ n = omega arith in
          absurd (none (subst (λ k. IsTrue (is_marked ready k)) same is_ready)
          (subst (λ k. IsTrue (is_marked unsettled k)) same marked))
    ];
  }

  pub AreSourcesBelow-push : IsTrue (is_marked ready n) → IsTrue (is_marked unsettled n)
      → AreSourcesBelow ready unsettled (sources ++ n ∷ []) (n + 1)
  AreSourcesBelow-push is_ready marked = record {
    rising = λ i j below l. elim (cases_lt j (length sources)) [
      | inl past ↦ omega (
        arith,
        before i (omega (arith, below, past)),
        before j past,
        old.rising i j below past,
      )
      | inr here ↦
          let last : j ≡ length sources = omega (arith, length_push sources n, l) in
          let own = (old.each i (omega (arith, below, last))).0 in
          omega (
            arith,
            before i (omega (arith, below, last)),
            get_or_push sources n 0 j (sym last),
            own,
          )
    ];
    each = λ i l. elim (cases_lt i (length sources)) [
      | inl past ↦
          let e = old.each i past in
          let same = before i past in (
            omega (arith, same, e.0),
            subst (λ k. IsTrue (is_marked ready k)) (sym same) e.1,
            subst (λ k. IsTrue (is_marked unsettled k)) (sym same) e.2,
          )
      | inr here ↦
          let same : get_or (sources ++ n ∷ []) i 0 ≡ n =
          get_or_push sources n 0 i (omega (arith, length_push sources n, l)) in (
            omega (arith, same),
            subst (λ k. IsTrue (is_marked ready k)) (sym same) is_ready,
            subst (λ k. IsTrue (is_marked unsettled k)) (sym same) marked,
          )
    ];
    whole = λ k l k_ready k_marked. elim (cases_lt k n) [
      | inl past ↦ Contains-append_left sources (n ∷ []) k (old.whole k past k_ready k_marked)
      | inr here ↦ let same : n ≡ k = omega arith in
          subst (Contains (sources ++ n ∷ [])) same (Contains-push sources n)
    ];
  } where
    before : (i : ℕ) → i < length sources → get_or (sources ++ n ∷ []) i 0 ≡ get_or sources i 0
    before i l = get_or_append_left sources (n ∷ []) 0 i l

-- a node that is marked is one of the nodes
marked_within : (marks : List Bool) (k : ℕ) → IsTrue (is_marked marks k) → k < length marks
marked_within marks k marked = elim (cases_lt k (length marks)) [
  | inl within ↦ within
  | inr past ↦ absurd (false≢true (sym (get_or_past marks k false (omega arith)) ∙ marked))
]

pub AreSources-from_below : (ready unsettled : List Bool) (sources : List ℕ)
    → AreSourcesBelow ready unsettled sources (length unsettled)
    → AreSources ready unsettled sources
AreSources-from_below ready unsettled sources below = record {
  rising = below.rising;
  each = λ i l. let e = below.each i l in (e.1, e.0);
  whole = λ k marked is_ready. below.whole k (marked_within unsettled k marked) is_ready marked;
}
