-- What a ledger with sorted keys says of its lines.
use Rattle.std.proofs.Common.{◌≡◌, inl, inr, List, [], ◌∷◌, map, Contains, Some, None, slice_get}
use Rattle.std.proofs.Common.{IsPermutation, refl, sym, subst, ◌∙◌}
use Rattle.epx_types.proofs.Common.{IsDistinct, IsSorted, IsPermutation-sym, Contains-permutation}
use Rattle.epx_types.proofs.Common.{id_cmp, UpTo, IsRising, Instance, Placed, Agree, Differ, ids_of}
use Rattle.epx_types.proofs.Common.{IsCommittedBy, Contains-nil, Contains-head, Contains-cons}
use Rattle.epx_types.proofs.Common.{Contains-map, Contains-from_map, Contains-Id_cases}
use Rattle.epx_types.specs.declared.id.Id.{Id}
use Rattle.epx_committed.specs.declared.ledger.Disagreement.{Disagreement}
use Rattle.epx_committed.specs.InstanceCounts.{AreNamedBy}
use Rattle.epx_committed.specs.MergedLines.{IsDisagreementAt}
use Rattle.epx_committed.specs.between.Ledgers.{LedgerView, IsLineOf, IsLedgerOf}
use Rattle.epx_committed.specs.inner.LeastDisagreement.{IsLeastDisagreement}
use Rattle.epx_committed.specs.between.LineOrder.{IsSortedByPlace}
use Rattle.epx_committed.proofs.FirstWhereLemmas.{IsFirstWhere-contains, IsFirstWhere-holds}
use Rattle.epx_committed.proofs.FirstWhereLemmas.{IsFirstWhere-earliest}
use Rattle.epx_committed.proofs.LedgerLemmas.{keys, Contains-keys}
use Rattle.epx_committed.proofs.LedgerMapLemmas.{same_id}
use Rattle.epx_committed.proofs.SortedKeyLemmas.{IsRising-from_sorted, UpTo-first}

abbrev pub instances_of : List (Id × Placed) → List Instance
instances_of es = map (λ e. e.1.instance) es

-- the Ids of the lines, where each line has the Id of its instance
keys-named : (firsts : List (Id × Placed))
    → ((x : Id) (p : Placed) → Contains firsts (x, p) → p.instance.id ≡ x)
    → keys firsts ≡ ids_of (instances_of firsts)
keys-named [] named = refl
keys-named (e ∷ es) named =
    let first : e.0 ≡ e.1.instance.id = sym (named e.0 e.1 (Contains-head e es)) in
    let rest = keys-named es (λ x p h. named x p (Contains-cons e es (x, p) h)) in
    λ i. first i ∷ rest i

module _ (lines : List Placed) (noted : LedgerView) (ledger : IsLedgerOf lines noted) where
  -- the first line of each noted instance
  first_named : (x : Id) (p : Placed) → Contains noted.firsts (x, p) → p.instance.id ≡ x
  first_named x p h = IsFirstWhere-holds (IsLineOf x) lines p (ledger.firsts x p h)

  first_line : (x : Id) (p : Placed) → Contains noted.firsts (x, p) → Contains lines p
  first_line x p h = IsFirstWhere-contains (IsLineOf x) lines p (ledger.firsts x p h)

  first_of : (p : Placed) → Contains lines p
      → (f : Placed) × Contains noted.firsts (p.instance.id, f)
  first_of p h =
      let at = Contains-from_map (λ (e : Id × Placed). e.0) noted.firsts p.instance.id
      (ledger.whole p h) in
      (at.0.1, subst (λ (x : Id). Contains noted.firsts (x, at.0.1)) at.2 at.1)

  -- without disagreements the lines agree
  pub Agree-from_ledger : ((x : Id) → ¬ Contains (keys noted.disagreements) x) → Agree lines
  Agree-from_ledger none p q in_p in_q same =
      let f = first_of p in_p in
      sym (ledger.alike p.instance.id f.0 f.1 (none p.instance.id) p in_p refl)
      ∙ ledger.alike p.instance.id f.0 f.1 (none p.instance.id) q in_q (sym same)

  -- two lines that differ belong to an instance with a disagreement
  disagreement_of : (p q : Placed) → Contains lines p → Contains lines q → Differ p q
      → Contains (keys noted.disagreements) p.instance.id
  disagreement_of p q in_p in_q differ =
      elim (Contains-Id_cases (keys noted.disagreements) p.instance.id) [
        | inl has ↦ has
        | inr none ↦
            let f = first_of p in_p in
            absurd (differ.1 (sym (ledger.alike p.instance.id f.0 f.1 none p in_p refl)
            ∙ ledger.alike p.instance.id f.0 f.1 none q in_q (sym differ.0)))
      ]

  module _ (firsts : List (Id × Placed)) (moved : IsPermutation noted.firsts firsts)
      (sorted : IsSorted id_cmp (keys firsts)) (distinct : IsDistinct same_id (keys firsts)) where
    back : (x : Id) (p : Placed) → Contains firsts (x, p) → Contains noted.firsts (x, p)
    back x p h = Contains-permutation firsts noted.firsts (x, p)
        (IsPermutation-sym noted.firsts firsts moved) h

    there : (x : Id) (p : Placed) → Contains noted.firsts (x, p) → Contains firsts (x, p)
    there x p h = Contains-permutation noted.firsts firsts (x, p) moved h

    -- the keys are the distinct Ids of the lines
    pub AreNamedBy-sorted : AreNamedBy lines (keys firsts)
    AreNamedBy-sorted = record {
      rising = IsRising-from_sorted (keys firsts) sorted distinct;
      whole = λ p h. let f = first_of p h in
          Contains-keys firsts p.instance.id f.0 (there p.instance.id f.0 f.1);
      named = λ x h.
          let e = Contains-from_map (λ (d : Id × Placed). d.0) firsts x h in
          let old = back e.0.0 e.0.1 e.1 in
          (e.0.1, first_line e.0.0 e.0.1 old, first_named e.0.0 e.0.1 old ∙ e.2);
    }

    -- if the lines agree, they commit the instances of their first lines
    pub IsCommittedBy-sorted : Agree lines → IsCommittedBy lines (instances_of firsts)
    IsCommittedBy-sorted agree = record {
      rising = subst IsRising (keys-named firsts (λ x p h. first_named x p (back x p h)))
          (IsRising-from_sorted (keys firsts) sorted distinct);
      given = λ e h.
          let d = Contains-from_map (λ (f : Id × Placed). f.1.instance) firsts e h in
          (d.0.1, first_line d.0.0 d.0.1 (back d.0.0 d.0.1 d.1), d.2);
      whole = λ p h.
          let f = first_of p h in
          let same = agree f.0 p (first_line p.instance.id f.0 f.1) h
          (first_named p.instance.id f.0 f.1) in
          subst (Contains (instances_of firsts)) same
          (Contains-map (λ (d : Id × Placed). d.1.instance) firsts (p.instance.id, f.0)
          (there p.instance.id f.0 f.1));
    }

  -- the least of the disagreements is the first one
  pub IsDisagreementAt-least : IsSortedByPlace lines → (x : Id) (disagreement : Disagreement)
      → Contains noted.disagreements (x, disagreement)
      → ((y : Id) → Contains (keys noted.disagreements) y → UpTo x y)
      → IsDisagreementAt lines x disagreement.first disagreement.second
  IsDisagreementAt-least order x disagreement has least =
      let h = ledger.disagreements x disagreement has in (
        h.first,
        h.second,
        record {
          has_first = IsFirstWhere-contains (IsLineOf x) lines h.first h.opens;
          has_second = IsFirstWhere-contains (Differ h.first) lines h.second h.differs;
          named = IsFirstWhere-holds (IsLineOf x) lines h.first h.opens;
          differ = IsFirstWhere-holds (Differ h.first) lines h.second h.differs;
          least = λ p q in_p in_q other. least p.instance.id (disagreement_of p q in_p in_q other);
          opens = λ p in_p named. IsFirstWhere-earliest (IsLineOf x) lines order h.first h.opens p
              in_p named;
          follows = λ q in_q other. IsFirstWhere-earliest (Differ h.first) lines order h.second
              h.differs q in_q other;
        },
        h.first_place,
        h.second_place,
      )

-- the first of sorted disagreements is the least of those before the sort
pub IsLeastDisagreement-first : (before disagreements : List (Id × Disagreement))
    (e : Id × Disagreement)
    → slice_get disagreements 0 ≡ Some e → IsPermutation before disagreements
    → IsSorted id_cmp (keys disagreements) → IsLeastDisagreement before (Some e)
IsLeastDisagreement-first before [] e at moved sorted = absurd (cc at)
IsLeastDisagreement-first before (d ∷ rest) e at moved sorted =
    let first : ◌≡◌ {A = Id × Disagreement} d e = cc at in
    let sorts : List (Id × Disagreement) = d ∷ rest in
    subst (λ (f : Id × Disagreement). IsLeastDisagreement before (Some f)) first (
      Contains-permutation sorts before d (IsPermutation-sym before sorts moved)
          (Contains-head d rest),
      λ y h.
          let has = Contains-from_map (λ (f : Id × Disagreement). f.0) before y h in
          let among = Contains-map (λ (f : Id × Disagreement). f.0) sorts has.0
          (Contains-permutation before sorts has.0 moved has.1) in
          UpTo-first d.0 (keys rest) sorted y (subst (Contains (keys sorts)) has.2 among),
    )

-- a list without a first element has no key, nor had it before the sort
pub IsLeastDisagreement-none : (before disagreements : List (Id × Disagreement))
    → slice_get disagreements 0 ≡ None → IsPermutation before disagreements
    → IsLeastDisagreement before None
IsLeastDisagreement-none before [] none moved x h =
    let e = Contains-from_map (λ (d : Id × Disagreement). d.0) before x h in
    Contains-nil e.0 (Contains-permutation before [] e.0 moved e.1)
IsLeastDisagreement-none before (e ∷ rest) none moved x h = absurd (cc none)
