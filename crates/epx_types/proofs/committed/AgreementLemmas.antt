-- Lines of logs have at most one committed map and at most one first disagreement.
use Rattle.std.proofs.Common.{◌↔◌, [], ◌∷◌, Some, is_eq, true, refl, ap, inl, inr, ◌≡◌, List}
use Rattle.std.proofs.Common.{AllPairs, Contains, sym, ◌∙◌, subst}
use Rattle.std.proofs.lemmas.Bool.{cases_Bool}
use Rattle.std.specs.Cmp.{Equal-is, tied_itself}
use Rattle.epx_types.specs.declared.id.Id.{Id}
use Rattle.epx_types.specs.Instances.{Instance}
use Rattle.epx_types.specs.Ids.{id_cmp, Below, IsRising, UpTo}
use Rattle.epx_types.specs.PlacedLines.{Placed, HaveDistinctPlaces}
use Rattle.epx_types.specs.Agreement.{Differ, Agree, IsFirstDisagreement}
use Rattle.epx_types.specs.CommittedMap.{ids_of, instance_of, IsCommittedBy}
use Rattle.epx_types.proofs.lists.MembershipLemmas.{Contains-nil, Contains-head, Contains-cons}
use Rattle.epx_types.proofs.lists.MembershipLemmas.{Contains-cons_cases}
use Rattle.epx_types.proofs.lists.ListPositionLemmas.{AllPairs-same}
use Rattle.epx_types.proofs.lists.RisingIdLemmas.{AllPairs-from_rising_ids}
use Rattle.epx_types.proofs.lists.TotalOrderLemmas.{is_lt-irrefl, is_lt-trans, is_lt-neither_same}
use Rattle.epx_types.proofs.lists.TotalOrderLemmas.{AllPairs-is_unique}
use Rattle.epx_types.proofs.lists.ComparisonLemmas.{id_cmp-IsTotalOrder, id_cmp-IsAntisymmetric}
use Rattle.epx_types.proofs.lists.ComparisonLemmas.{place_cmp-IsTotalOrder}
use Rattle.epx_types.proofs.lists.ComparisonLemmas.{place_cmp-IsAntisymmetric}
use Rattle.epx_types.proofs.graph.ReachingLemmas.{UpTo-antisymm}

-- ---- the committed map

rising_instances : (m : List Instance) → IsRising (ids_of m) → AllPairs (λ d e. Below d.id e.id) m
rising_instances = AllPairs-from_rising_ids (λ e. e.id)

IsCommittedBy-contains : (lines : List Placed) (m n : List Instance) → IsCommittedBy lines m
    → IsCommittedBy lines n → (e : Instance) → Contains m e → Contains n e
IsCommittedBy-contains lines m n p q e h =
    let line = p.given e h in
    subst (Contains n) line.2 (q.whole line.0 line.1)

-- two committed maps of the same lines are equal
pub IsCommittedBy-unique : (lines : List Placed) (m n : List Instance) → IsCommittedBy lines m
    → IsCommittedBy lines n → m ≡ n
IsCommittedBy-unique lines m n p q =
    AllPairs-is_unique (λ d e. Below d.id e.id) (λ e. is_lt-irrefl id_cmp-IsTotalOrder e.id)
    (λ c d e. is_lt-trans id_cmp-IsTotalOrder c.id d.id e.id)
    m n (rising_instances m p.rising) (rising_instances n q.rising)
    (IsCommittedBy-contains lines m n p q) (IsCommittedBy-contains lines n m q p)

-- a committed map has one instance of an Id
pub IsRising-same : (m : List Instance) → IsRising (ids_of m) → (d e : Instance) → Contains m d
    → Contains m e → d.id ≡ e.id → d ≡ e
IsRising-same m rising d e in_d in_e same =
    AllPairs-same (λ a b. Below a.id b.id) m (rising_instances m rising) d e in_d in_e
    (λ l. is_lt-irrefl id_cmp-IsTotalOrder d.id (subst (Below d.id) (sym same) l))
    (λ l. is_lt-irrefl id_cmp-IsTotalOrder e.id (subst (Below e.id) same l))

-- lines that have a committed map agree
pub IsCommittedBy-Agree : (lines : List Placed) (m : List Instance) → IsCommittedBy lines m
    → Agree lines
IsCommittedBy-Agree lines m h p q in_p in_q same =
    IsRising-same m h.rising p.instance q.instance (h.whole p in_p) (h.whole q in_q) same

pub instance_of-found : (m : List Instance) (x : Id) (e : Instance) → instance_of m x ≡ Some e
    → Contains m e × (e.id ≡ x)
instance_of-found [] x e found = absurd (cc found)
instance_of-found (d ∷ m) x e found =
    elim (cases_Bool (is_eq (id_cmp d.id x))) [
      | inl here ↦
          let same : d ≡ e = cc (rw here at found) in (
            subst (Contains (d ∷ m)) same (Contains-head d m),
            ap (λ i. i.id) (sym same)
                ∙ id_cmp-IsAntisymmetric d.id x ((Equal-is (id_cmp d.id x)).0 here),
          )
      | inr other ↦ let rest = instance_of-found m x e (rw other at found) in
          (Contains-cons d m e rest.0, rest.1)
    ]

-- a look-up finds an instance of the Id if one is committed
pub instance_of-finds : (m : List Instance) (e : Instance) → Contains m e
    → (d : Instance) × (instance_of m e.id ≡ Some d)
instance_of-finds [] e h = absurd (Contains-nil e h)
instance_of-finds (d ∷ m) e h =
    elim (cases_Bool (is_eq (id_cmp d.id e.id))) [
      | inl here ↦ (d, rw here refl)
      | inr other ↦ elim (Contains-cons_cases d m e h) [
        | inl same ↦ let tied : is_eq (id_cmp d.id e.id) ≡ true =
            ap (λ i. is_eq (id_cmp d.id i.id)) (sym same)
            ∙ ap is_eq (tied_itself id_cmp-IsTotalOrder d.id) in absurd (cc (tied, other))
        | inr rest ↦ let found = instance_of-finds m e rest in (found.0, rw other found.1)
      ]
    ]

-- a look-up finds exactly the committed instance of an Id
pub instance_of-iff_contains : (m : List Instance) → IsRising (ids_of m) → (x : Id) (e : Instance)
    → (instance_of m x ≡ Some e) ↔ Contains m e × (e.id ≡ x)
instance_of-iff_contains m rising x e = (instance_of-found m x e, back) where
  back : Contains m e × (e.id ≡ x) → instance_of m x ≡ Some e
  back h =
      let found = instance_of-finds m e h.0 in
      let known = instance_of-found m e.id found.0 found.1 in
      let same = IsRising-same m rising found.0 e known.0 h.0 known.1 in
      ap (instance_of m) (sym h.1) ∙ found.1 ∙ ap Some same

-- ---- the first disagreement

module _ (lines : List Placed) where
  -- lines with a first disagreement do not agree
  pub IsFirstDisagreement-not_Agree : (id : Id) (first second : Placed)
      → IsFirstDisagreement lines id first second → ¬ Agree lines
  IsFirstDisagreement-not_Agree id first second h agree =
      h.differ.1 (agree first second h.has_first h.has_second h.differ.0)

  -- no first disagreement has an Id below that of another
  IsFirstDisagreement-least : (id id' : Id) (first second first' second' : Placed)
      → IsFirstDisagreement lines id first second → IsFirstDisagreement lines id' first' second'
      → UpTo id id'
  IsFirstDisagreement-least id id' first second first' second' p q =
      subst (UpTo id) q.named (p.least first' second' q.has_first q.has_second q.differ)

  -- two first disagreements are equal if no two lines have the same place
  pub IsFirstDisagreement-unique : HaveDistinctPlaces lines
      → (id id' : Id) (first second first' second' : Placed)
      → IsFirstDisagreement lines id first second → IsFirstDisagreement lines id' first' second'
      → (id ≡ id') × (first ≡ first') × (second ≡ second')
  IsFirstDisagreement-unique own id id' first second first' second' p q =
      let ids = UpTo-antisymm id id'
      (IsFirstDisagreement-least id id' first second first' second' p q)
      (IsFirstDisagreement-least id' id first' second' first second q p) in
      let opening = is_lt-neither_same place_cmp-IsTotalOrder place_cmp-IsAntisymmetric first.place
      first'.place
      (q.opens first p.has_first (p.named ∙ ids))
      (p.opens first' q.has_first (q.named ∙ sym ids)) in
      let firsts = own first first' p.has_first q.has_first opening in
      let following =
      is_lt-neither_same place_cmp-IsTotalOrder place_cmp-IsAntisymmetric second.place
      second'.place
      (q.follows second p.has_second (let P : Placed → Type 0 = λ line. Differ line second in
      subst P firsts p.differ))
      (p.follows second' q.has_second (let P : Placed → Type 0 = λ line. Differ line second' in
      subst P (sym firsts) q.differ)) in
      (ids, firsts, own second second' p.has_second q.has_second following)
