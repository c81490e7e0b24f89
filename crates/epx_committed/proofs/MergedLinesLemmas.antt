-- Lines that are sorted by place commit a map, or have a fault for which they commit none.
use Rattle.std.proofs.Common.{◌≡◌, ◌≢◌, ◌⊎◌, inl, inr, List, [], ◌∷◌, Contains, refl, sym, ap}
use Rattle.std.proofs.Common.{subst, ◌∙◌}
use Rattle.epx_types.proofs.Common.{IsRising, UpTo, Instance, Placed, Agree, Differ}
use Rattle.epx_types.proofs.Common.{IsFirstDisagreement, ids_of, IsCommittedBy, Id-cases}
use Rattle.epx_types.proofs.Common.{Contains-nil, Contains-head, Contains-cons, Contains-cons_cases}
use Rattle.epx_types.proofs.Common.{Contains-from_map, Contains-some_or_none, IsLeastOf-or_none}
use Rattle.epx_types.specs.declared.id.Id.{Id}
use Rattle.epx_types.specs.declared.fault.Fault.{Fault}
use Rattle.epx_types.specs.declared.fault.Fault.TheVariants.{TooManyInstances, Disagree, Memory}
use Rattle.epx_committed.specs.InstanceCounts.{AreNamedBy}
use Rattle.epx_committed.specs.between.Ledgers.{IsFirstWhere, IsLineOf}
use Rattle.epx_committed.specs.between.LineOrder.{IsSortedByPlace}
use Rattle.epx_committed.specs.MergedLines.{IsMerged, IsMergeFault}
use Rattle.epx_committed.proofs.EqualityLemmas.{Instance-cases}
use Rattle.epx_committed.proofs.FirstWhereLemmas.{IsFirstWhere-contains, IsFirstWhere-holds}
use Rattle.epx_committed.proofs.FirstWhereLemmas.{IsFirstWhere-earliest, IsFirstWhere-exists}
use Rattle.epx_committed.proofs.InstanceCountLemmas.{FewInstances-or_many}

-- ---- what lines that agree commit

module _ (lines : List Placed) where
  -- an instance of the lines for each Id
  record AreGiven (ids : List Id) (m : List Instance) : Type 0 where
    named : ids_of m ≡ ids
    given : (e : Instance) → Contains m e → (p : Placed) × Contains lines p × (p.instance ≡ e)

  given_for : (ids : List Id)
      → ((x : Id) → Contains ids x → (p : Placed) × Contains lines p × (p.instance.id ≡ x))
      → (m : List Instance) × AreGiven ids m
  given_for [] named = ([], record { named = refl; given = λ e h. absurd (Contains-nil e h) })
  given_for (x ∷ ids) named =
      let p = named x (Contains-head x ids) in
      let rest = given_for ids (λ y h. named y (Contains-cons x ids y h)) in (
        p.0.instance ∷ rest.0,
        record {
          named = λ i. p.2 i ∷ rest.1.named i;
          given = λ e h. elim (Contains-cons_cases p.0.instance rest.0 e h)
              [ inl same ↦ (p.0, p.1, same) | inr later ↦ rest.1.given e later ];
        },
      )

  commits : Agree lines → (ids : List Id) → AreNamedBy lines ids
      → (m : List Instance) × IsCommittedBy lines m
  commits agree ids names =
      let m = given_for ids names.named in (
        m.0,
        record {
          rising = subst IsRising (sym m.1.named) names.rising;
          given = m.1.given;
          whole = λ p h.
              let e = Contains-from_map (λ (i : Instance). i.id) m.0 p.instance.id
              (subst (λ (l : List Id). Contains l p.instance.id) (sym m.1.named)
              (names.whole p h)) in
              let q = m.1.given e.0 e.1 in
              subst (Contains m.0) (sym q.2
              ∙ agree q.0 p q.1 h (ap (λ (i : Instance). i.id) q.2 ∙ e.2)) e.1;
        },
      )

-- ---- the first disagreement of lines that do not agree

Differ-cases : (p q : Placed) → Differ p q ⊎ (¬ Differ p q)
Differ-cases p q =
    elim (Id-cases p.instance.id q.instance.id) [
      | inr other ↦ inr (λ d. other d.0)
      | inl same ↦ elim (Instance-cases p.instance q.instance) [
        | inl equal ↦ inr (λ d. d.1 equal)
        | inr differ ↦ inl (same, differ)
      ]
    ]

module _ (lines : List Placed) where
  -- the line names x, and some line differs from it
  abbrev IsDoubted : Id → Placed → Type 0
  IsDoubted x p = IsLineOf x p × ((q : Placed) × Contains lines q × Differ p q)

  IsDoubted-cases : (x : Id) (p : Placed) → IsDoubted x p ⊎ (¬ IsDoubted x p)
  IsDoubted-cases x p =
      elim (Id-cases p.instance.id x) [
        | inr other ↦ inr (λ d. other d.0)
        | inl named ↦ elim (Contains-some_or_none (Differ p) (Differ-cases p) lines) [
          | inl some ↦ inl (named, some)
          | inr none ↦ inr (λ d. none d.1.0 d.1.1 d.1.2)
        ]
      ]

  abbrev HasDoubt : Id → Type 0
  HasDoubt x = (p : Placed) × Contains lines p × IsDoubted x p

  HasDoubt-cases : (x : Id) → HasDoubt x ⊎ (¬ HasDoubt x)
  HasDoubt-cases x =
      elim (Contains-some_or_none (IsDoubted x) (IsDoubted-cases x) lines)
      [ inl some ↦ inl some | inr none ↦ inr (λ d. none d.0 d.1 d.2) ]

  -- the first line of the Id, and the first line that differs from that one
  record AreFirstTwo (x : Id) : Type 0 where
    first : Placed
    second : Placed
    opens : IsFirstWhere (IsLineOf x) lines first
    differs : IsFirstWhere (Differ first) lines second

  first_two : (x : Id) → HasDoubt x → AreFirstTwo x
  first_two x d =
      let first = IsFirstWhere-exists (IsLineOf x) (λ p. Id-cases p.instance.id x) lines d.0 d.1
      d.2.0 in
      let named = IsFirstWhere-holds (IsLineOf x) lines first.0 first.1 in
      let q = d.2.1 in
      let other : (r : Placed) × Contains lines r × Differ first.0 r =
      elim (Instance-cases first.0.instance d.0.instance) [
        | inl same ↦ (
          q.0,
          q.1,
          (ap (λ (i : Instance). i.id) same ∙ q.2.0, (λ e. q.2.1 (sym same ∙ e))),
        )
        | inr differ ↦ (d.0, d.1, (named ∙ sym d.2.0, differ))
      ] in
      let second = IsFirstWhere-exists (Differ first.0) (Differ-cases first.0) lines other.0
      other.1 other.2 in
      record { first = first.0; second = second.0; opens = first.1; differs = second.1 }

  module _ (order : IsSortedByPlace lines) (ids : List Id) (names : AreNamedBy lines ids) where
    doubted : (p q : Placed) → Contains lines p → Contains lines q → Differ p q
        → HasDoubt p.instance.id
    doubted p q in_p in_q differ = (p, in_p, (refl, (q, in_q, differ)))

    first_disagreement : (x : Id) → HasDoubt x
        → ((y : Id) → Contains ids y → HasDoubt y → UpTo x y)
        → (first second : Placed) × IsFirstDisagreement lines x first second
    first_disagreement x d least =
        let two = first_two x d in (
          two.first,
          two.second,
          record {
            has_first = IsFirstWhere-contains (IsLineOf x) lines two.first two.opens;
            has_second = IsFirstWhere-contains (Differ two.first) lines two.second two.differs;
            named = IsFirstWhere-holds (IsLineOf x) lines two.first two.opens;
            differ = IsFirstWhere-holds (Differ two.first) lines two.second two.differs;
            least = λ p q in_p in_q differ. least p.instance.id (names.whole p in_p)
                (doubted p q in_p in_q differ);
            opens = IsFirstWhere-earliest (IsLineOf x) lines order two.first two.opens;
            follows = IsFirstWhere-earliest (Differ two.first) lines order two.second
                two.differs;
          },
        )

    agree_without : ((x : Id) → Contains ids x → ¬ HasDoubt x) → Agree lines
    agree_without none p q in_p in_q same =
        elim (Instance-cases p.instance q.instance) [
          | inl equal ↦ equal
          | inr differ ↦ absurd (none p.instance.id (names.whole p in_p)
              (doubted p q in_p in_q (same, differ)))
        ]

-- ---- a map or a fault

pub IsMerged-or_fault : (lines : List Placed) → IsSortedByPlace lines
    → ((m : List Instance) × IsMerged lines m)
    ⊎ ((f : Fault) × (f ≢ Memory) × IsMergeFault lines f)
IsMerged-or_fault lines order =
    elim (FewInstances-or_many lines) [
      | inr many ↦ inr (TooManyInstances, (λ same. cc same), many)
      | inl few ↦ elim (IsLeastOf-or_none (HasDoubt lines) (HasDoubt-cases lines) few.0) [
        | inl least ↦
            let d = first_disagreement lines order few.0 few.1 least.0 least.1.0 least.1.1 in
            inr (
              Disagree least.0 d.0.place d.1.place,
              (λ same. cc same),
              (few, (d.0, d.1, d.2, refl, refl)),
            )
        | inr none ↦
            let agree = agree_without lines order few.0 few.1 none in
            let m = commits lines agree few.0 few.1 in
            inl (m.0, record { small = few; agree = agree; committed = m.1 })
      ]
    ]
