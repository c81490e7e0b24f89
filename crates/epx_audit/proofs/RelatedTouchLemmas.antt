-- The invariant of the loop over the sorted touches.
use Rattle.std.proofs.Common.{◌≡◌, ◌⊎◌, inl, inr, ℕ, ◌+◌, ◌<◌, ◌≤◌, List, Bool, IsTrue, refl, sym}
use Rattle.std.proofs.Common.{subst, ap, ◌∙◌, arith}
use Rattle.epx_types.proofs.Common.{cases_Bool, cases_lt, false≢true}
use Rattle.epx_audit.specs.declared.touches.KeyUse.{KeyUse}
use Rattle.epx_audit.specs.inner.RelatedTouches.{touch_at, TouchReaches, AreAllRelated}
use Rattle.epx_audit.specs.inner.RelatedTouches.{IsRelatedBack, IsNextWriter}
use Rattle.epx_components.proofs.NodePathLemmas.{NodeReaches-trans}

-- of the first n touches, last_writer is the last one that writes, or the first one of its hash
pub record IsRelatedUpTo (edges : ℕ → List ℕ) (nodes : List ℕ) (touches : List KeyUse)
    (last_writer n : ℕ) : Type 0 where
  pub linked : AreAllRelated edges nodes touches n
  pub first : n ≡ 0 → last_writer ≡ 0
  pub within : 0 < n → last_writer < n
  pub chain : (j : ℕ) → last_writer ≤ j → j < n
      → (touch_at touches j).hash ≡ (touch_at touches last_writer).hash
  pub reads : (j : ℕ) → last_writer < j → j < n → ¬ IsTrue (touch_at touches j).writes
  pub before : (j : ℕ) → j < last_writer
      → (touch_at touches j).hash ≡ (touch_at touches last_writer).hash
      → IsTrue (touch_at touches last_writer).writes
      × TouchReaches edges nodes touches last_writer j
  pub rises : (j : ℕ) → j < n → (touch_at touches j).hash ≤ (touch_at touches last_writer).hash

module _ (edges : ℕ → List ℕ) (nodes : List ℕ) (touches : List KeyUse) where
  abbrev hash : ℕ → ℕ
  hash i = (touch_at touches i).hash

  abbrev writes : ℕ → Bool
  writes i = (touch_at touches i).writes

  abbrev Reach : ℕ → ℕ → Type 0
  Reach i j = TouchReaches edges nodes touches i j

  trans : (i j k : ℕ) → Reach i j → Reach j k → Reach i k
  trans i j k = NodeReaches-trans edges _ _ _

  -- the first n + 1 touches are linked if touch n reaches what it has to reach
  all_related_more : (n : ℕ) → AreAllRelated edges nodes touches n
      → ((j : ℕ) → j < n → hash j ≡ hash n → IsTrue (writes j) ⊎ IsTrue (writes n) → Reach n j)
      → AreAllRelated edges nodes touches (n + 1)
  all_related_more n old now j i below within same one = elim (cases_lt i n) [
    | inl past ↦ old j i below past same one
    | inr here ↦
        let is : n ≡ i = omega arith in
        subst (λ i. hash j ≡ hash i → IsTrue (writes j) ⊎ IsTrue (writes i) → Reach i j) is
        (now j (omega arith)) same one
  ]

  -- the first touch of its hash
  related_by_new_hash : (last_writer n : ℕ) → hash last_writer < hash n
      → IsRelatedUpTo edges nodes touches last_writer n
      → IsRelatedUpTo edges nodes touches n (n + 1)
  related_by_new_hash last_writer n more old = record {
    linked = all_related_more n old.linked
        (λ j below same one. absurd (omega (arith, old.rises j below, more, same)));
    first = λ none. absurd (omega arith);
    within = λ some. omega arith;
    chain = λ j l below. let same : j ≡ n = omega arith in ap hash same;
    reads = λ j l below. absurd (omega arith);
    before = λ j below same. absurd (omega (arith, old.rises j below, more, same));
    rises = λ j l. elim (cases_lt j n) [
      | inl past ↦ omega (arith, old.rises j past, more)
      | inr here ↦ let same : j ≡ n = omega arith in omega (arith, ap hash same)
    ];
  }

  -- a touch that writes
  related_by_writer : (last_writer n : ℕ) → hash last_writer ≡ hash n → IsTrue (writes n)
      → IsRelatedBack edges nodes touches last_writer n
      → IsRelatedUpTo edges nodes touches last_writer n
      → IsRelatedUpTo edges nodes touches n (n + 1)
  related_by_writer last_writer n same writing follows old = record {
    linked = all_related_more n old.linked (λ j below alike one. all j below alike);
    first = λ none. absurd (omega arith);
    within = λ some. omega arith;
    chain = λ j l below. let is : j ≡ n = omega arith in ap hash is;
    reads = λ j l below. absurd (omega arith);
    before = λ j below alike. (writing, all j below alike);
    rises = λ j l. elim (cases_lt j n) [
      | inl past ↦ omega (arith, old.rises j past, same)
      | inr here ↦ let is : j ≡ n = omega arith in omega (arith, ap hash is)
    ];
  } where
    all : (j : ℕ) → j < n → hash j ≡ hash n → Reach n j
    all j below alike = elim (cases_lt j last_writer) [
      | inl past ↦ trans n last_writer j
          (follows last_writer (omega arith) (old.within (omega arith)) (inl writing))
          (old.before j past (alike ∙ sym same)).1
      | inr here ↦ follows j here below (inl writing)
    ]

  -- a touch that reads
  related_by_reader : (last_writer n : ℕ) → hash last_writer ≡ hash n → ¬ IsTrue (writes n)
      → IsRelatedBack edges nodes touches last_writer n
      → IsRelatedUpTo edges nodes touches last_writer n
      → IsRelatedUpTo edges nodes touches last_writer (n + 1)
  related_by_reader last_writer n same reading follows old = record {
    linked = all_related_more n old.linked
        (λ j below alike one. elim one [
          | inl wrote ↦ last j below alike wrote
          | inr writing ↦ absurd (reading writing)
        ]);
    first = λ none. absurd (omega arith);
    within = λ some. elim (cases_lt 0 n) [
      | inl past ↦ omega (arith, old.within past)
      | inr none ↦ omega (arith, old.first (omega arith))
    ];
    chain = λ j l below. elim (cases_lt j n) [
      | inl past ↦ old.chain j l past
      | inr here ↦ let is : j ≡ n = omega arith in ap hash is ∙ sym same
    ];
    reads = λ j l below. elim (cases_lt j n) [
      | inl past ↦ old.reads j l past
      | inr here ↦ let is : n ≡ j = omega arith in subst (λ j. ¬ IsTrue (writes j)) is reading
    ];
    before = old.before;
    rises = λ j l. elim (cases_lt j n) [
      | inl past ↦ old.rises j past
      | inr here ↦ let is : j ≡ n = omega arith in omega (arith, ap hash is, same)
    ];
  } where
    last : (j : ℕ) → j < n → hash j ≡ hash n → IsTrue (writes j) → Reach n j
    last j below alike wrote = elim (cases_lt j last_writer) [
      | inl past ↦
          let on = old.before j past (alike ∙ sym same) in
          trans n last_writer j (follows last_writer (omega arith) (old.within (omega arith))
          (inr (refl, on.0))) on.1
      | inr here ↦ elim (cases_lt last_writer j) [
        | inl behind ↦ absurd (old.reads j behind below wrote)
        | inr up ↦ follows j here below (inr (omega arith, wrote))
      ]
    ]

  pub IsRelatedUpTo-next : (last_writer n next : ℕ) → hash last_writer ≤ hash n
      → (hash last_writer ≡ hash n → IsRelatedBack edges nodes touches last_writer n)
      → IsNextWriter touches last_writer n next → IsRelatedUpTo edges nodes touches last_writer n
      → IsRelatedUpTo edges nodes touches next (n + 1)
  IsRelatedUpTo-next last_writer n next rises follows is old =
      elim (cases_lt (hash last_writer) (hash n)) [
        | inl more ↦ subst (λ i. IsRelatedUpTo edges nodes touches i (n + 1))
            (sym (is.moves (inr (λ same. omega (arith, more, same)))))
            (related_by_new_hash last_writer n more old)
        | inr upto ↦
            let same : hash last_writer ≡ hash n = omega arith in
            elim (cases_Bool (writes n)) [
              | inl writing ↦ subst (λ i. IsRelatedUpTo edges nodes touches i (n + 1))
                  (sym (is.moves (inl writing)))
                  (related_by_writer last_writer n same writing (follows same) old)
              | inr reading ↦
                  let none : ¬ IsTrue (writes n) = λ h. false≢true (sym reading ∙ h) in
                  subst (λ i. IsRelatedUpTo edges nodes touches i (n + 1))
                  (sym (is.stays none same))
                  (related_by_reader last_writer n same none (follows same) old)
            ]
      ]
