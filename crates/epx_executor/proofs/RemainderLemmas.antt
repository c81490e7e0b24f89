-- What remains of a map: the tests by which instances are left out, and maps of which the same
-- remains.
use Rattle.std.proofs.Common.{◌≡◌, ◌⊎◌, ◌↔◌, Bool, true, false, not, IsTrue, List, [], ◌∷◌, filter}
use Rattle.std.proofs.Common.{flat_map, map, ◌&&◌, Contains, refl, sym, ap, ◌∙◌, subst, inl, inr}
use Rattle.epx_types.proofs.Common.{AllPairs-filter, ids_of, is_among, without_deps, remaining}
use Rattle.epx_types.proofs.Common.{Below, IsRising, Instance, id_cmp-IsTotalOrder, Contains-filter}
use Rattle.epx_types.proofs.Common.{Contains-from_filter, passes-from_filter, map-agree}
use Rattle.epx_types.proofs.Common.{Contains-map, Contains-flat_map, Contains-from_flat_map}
use Rattle.epx_types.proofs.Common.{AllPairs-from_rising_ids, is_lt-irrefl, is_lt-trans}
use Rattle.epx_types.proofs.Common.{AllPairs-is_unique, is_among-cases, is_among-false}
use Rattle.epx_types.proofs.Common.{IsRising-remaining}
use Rattle.epx_types.specs.declared.id.Id.{Id}
use Rattle.epx_executor.specs.Commits.{not_done}
use Rattle.epx_executor.specs.inner.Batches.{AreDoneDeps}
use Rattle.epx_executor.proofs.FilterLemmas.{filter-agree, filter-twice}

-- a test that decides whether an Id is done
pub is_among-decides : (b : Bool) (done : List Id) (x : Id) → (IsTrue b ↔ Contains done x)
    → b ≡ is_among done x
is_among-decides true done x h =
    elim (is_among-cases done x) [
      | inl found ↦ sym found.0
      | inr none ↦ absurd (none.1 (h.0 refl))
    ]
is_among-decides false done x h =
    elim (is_among-cases done x) [
      | inl found ↦ absurd (cc (h.1 found.1))
      | inr none ↦ sym none.0
    ]

pub is_among-true : (done : List Id) (x : Id) → Contains done x → is_among done x ≡ true
is_among-true done x h = elim (is_among-cases done x)
    [ inl found ↦ found.0 | inr none ↦ absurd (none.1 h) ]

pub Contains-from_among : (done : List Id) (x : Id) → is_among done x ≡ true → Contains done x
Contains-from_among done x e = elim (is_among-cases done x)
    [ inl found ↦ found.1 | inr none ↦ absurd (cc (e, none.0)) ]

-- lists with the same elements, as tests
pub is_among-same : (a b : List Id) (x : Id) → (Contains a x ↔ Contains b x)
    → is_among a x ≡ is_among b x
is_among-same a b x h = elim (is_among-cases a x) [
  | inl found ↦ found.0 ∙ sym (is_among-true b x (h.0 found.1))
  | inr none ↦ none.0 ∙ sym (is_among-false b x (λ there. none.1 (h.1 there)))
]

-- ---- instances that are not done

pub Contains-not_done : (done : List Id) (m : List Instance) (e : Instance) → Contains m e
    → ¬ Contains done e.id → Contains (not_done done m) e
Contains-not_done done m e h left =
    Contains-filter (λ (i : Instance). not (is_among done i.id)) m e h
    (ap not (is_among-false done e.id left))

pub Contains-from_not_done : (done : List Id) (m : List Instance) (e : Instance)
    → Contains (not_done done m) e → Contains m e × (¬ Contains done e.id)
Contains-from_not_done done m e h = (
  Contains-from_filter (λ (i : Instance). not (is_among done i.id)) m e h,
  λ among. absurd (cc (
    passes-from_filter (λ (i : Instance). not (is_among done i.id)) m e h,
    ap not (is_among-true done e.id among),
  )),
)

-- maps with the same instances are the same
pub IsRising-same_instances : (m n : List Instance) → IsRising (ids_of m) → IsRising (ids_of n)
    → ((e : Instance) → Contains m e ↔ Contains n e) → m ≡ n
IsRising-same_instances m n rising rising' same =
    AllPairs-is_unique (λ (a b : Instance). Below a.id b.id)
    (λ a. is_lt-irrefl id_cmp-IsTotalOrder a.id)
    (λ a b d. is_lt-trans id_cmp-IsTotalOrder a.id b.id d.id) m n
    (AllPairs-from_rising_ids (λ (i : Instance). i.id) m rising)
    (AllPairs-from_rising_ids (λ (i : Instance). i.id) n rising')
    (λ e h. (same e).0 h) (λ e h. (same e).1 h)

-- maps with the same instances that are not done have the same list of these
pub not_done-same : (done : List Id) (m n : List Instance) → IsRising (ids_of m)
    → IsRising (ids_of n)
    → ((e : Instance) → ¬ Contains done e.id → Contains m e ↔ Contains n e)
    → not_done done m ≡ not_done done n
not_done-same done m n rising rising' same =
    AllPairs-is_unique (λ (a b : Instance). Below a.id b.id)
    (λ a. is_lt-irrefl id_cmp-IsTotalOrder a.id)
    (λ a b d. is_lt-trans id_cmp-IsTotalOrder a.id b.id d.id) (not_done done m) (not_done done n)
    (AllPairs-filter (λ (a b : Instance). Below a.id b.id)
    (λ (i : Instance). not (is_among done i.id)) m
    (AllPairs-from_rising_ids (λ (i : Instance). i.id) m rising))
    (AllPairs-filter (λ (a b : Instance). Below a.id b.id)
    (λ (i : Instance). not (is_among done i.id)) n
    (AllPairs-from_rising_ids (λ (i : Instance). i.id) n rising'))
    (λ e h. let there = Contains-from_not_done done m e h in
    Contains-not_done done n e ((same e there.1).0 there.0) there.1)
    (λ e h. let there = Contains-from_not_done done n e h in
    Contains-not_done done m e ((same e there.1).1 there.0) there.1)

pub remaining-same : (done : List Id) (m n : List Instance) → IsRising (ids_of m)
    → IsRising (ids_of n)
    → ((e : Instance) → ¬ Contains done e.id → Contains m e ↔ Contains n e)
    → remaining done m ≡ remaining done n
remaining-same done m n rising rising' same =
    ap (map (without_deps done)) (not_done-same done m n rising rising' same)

ids_without_deps : (done : List Id) (m : List Instance)
    → ids_of (map (without_deps done) m) ≡ ids_of m
ids_without_deps done [] = refl
ids_without_deps done (e ∷ m) = ap (λ ids. e.id ∷ ids) (ids_without_deps done m)

pub IsRising-not_done : (done : List Id) (m : List Instance) → IsRising (ids_of m)
    → IsRising (ids_of (not_done done m))
IsRising-not_done done m rising =
    subst IsRising (ids_without_deps done (not_done done m)) (IsRising-remaining done m rising)

-- what remains of the instances that are not done is what remains of all
pub remaining-not_done : (done : List Id) (m : List Instance)
    → remaining done (not_done done m) ≡ remaining done m
remaining-not_done done m =
    ap (map (without_deps done)) (filter-twice (λ (i : Instance). not (is_among done i.id))
    (λ (i : Instance). not (is_among done i.id)) (λ (i : Instance). not (is_among done i.id)) m
    (λ i. same_and (not (is_among done i.id))))
  where
    same_and : (b : Bool) → b ≡ (b && b)
    same_and true = refl
    same_and false = refl

-- ---- done lists that agree on a map

pub remaining-agree : (a b : List Id) (m : List Instance)
    → ((e : Instance) → Contains m e → is_among a e.id ≡ is_among b e.id)
    → ((e : Instance) (x : Id) → Contains m e → Contains e.deps x → is_among a x ≡ is_among b x)
    → remaining a m ≡ remaining b m
remaining-agree a b m ids deps =
    ap (map (without_deps a)) (filter-agree (λ (e : Instance). not (is_among a e.id))
    (λ (e : Instance). not (is_among b e.id)) m (λ e h. ap not (ids e h)))
    ∙ map-agree (without_deps a) (without_deps b) (not_done b m) (λ e h.
    let there = (Contains-from_not_done b m e h).0 in
    ap (λ (ds : List Id). record { id = e.id; seq = e.seq; deps = ds; ops = e.ops })
    (filter-agree (λ (x : Id). not (is_among a x)) (λ (x : Id). not (is_among b x)) e.deps
    (λ x k. ap not (deps e x there k))))

-- the done dependencies of a map of which nothing is done
pub remaining-done_deps : (done : List Id) (m : List Instance) (found : List Id)
    → AreDoneDeps done m found → ((x : Id) → Contains (ids_of m) x → ¬ Contains done x)
    → remaining found m ≡ remaining done m
remaining-done_deps done m found are none =
    remaining-agree found done m
    (λ e h. let left = none e.id (Contains-map (λ (i : Instance). i.id) m e h) in
    is_among-false found e.id (λ there. left (are.only e.id there))
    ∙ sym (is_among-false done e.id left))
    (λ e x h k. is_among-same found done x (are.only x, are.whole e x h k))

pub AreDoneDeps-gathered : (done : List Id) (m : List Instance) (gathered found : List Id)
    → gathered ≡ flat_map (λ (e : Instance). filter (λ (x : Id). is_among done x) e.deps) m
    → ((x : Id) → Contains found x ↔ Contains gathered x) → AreDoneDeps done m found
AreDoneDeps-gathered done m gathered found is same = record {
  only = λ x h.
      let e = Contains-from_flat_map
      (λ (e : Instance). filter (λ (x : Id). is_among done x) e.deps) m x
      (subst (λ (ids : List Id). Contains ids x) is ((same x).0 h)) in
      Contains-from_among done x (passes-from_filter (λ (x : Id). is_among done x) e.0.deps x e.2);
  whole = λ e x h k there. (same x).1 (subst (λ (ids : List Id). Contains ids x) (sym is)
      (Contains-flat_map (λ (e : Instance). filter (λ (x : Id). is_among done x) e.deps) m e x h
      (Contains-filter (λ (x : Id). is_among done x) e.deps x k (is_among-true done x there))));
}

-- ---- more is done

among_both : (done ids now : List Id) (x : Id)
    → (Contains now x ↔ (Contains done x ⊎ Contains ids x))
    → not (is_among now x) ≡ (not (is_among done x) && not (is_among ids x))
among_both done ids now x h =
    elim (is_among-cases done x) [
      | inl old ↦ rw (old.0, is_among-true now x (h.1 (inl old.1))) refl
      | inr none ↦ elim (is_among-cases ids x) [
        | inl new ↦ rw (none.0, new.0, is_among-true now x (h.1 (inr new.1))) refl
        | inr neither ↦ rw (
          none.0,
          neither.0,
          is_among-false now x (λ there. elim (h.0 there)
              [ inl a ↦ none.1 a | inr b ↦ neither.1 b ]),
        ) refl
      ]
    ]

-- what remains of what remains
pub remaining-twice : (done ids now : List Id) (m : List Instance)
    → ((x : Id) → Contains now x ↔ (Contains done x ⊎ Contains ids x))
    → remaining ids (remaining done m) ≡ remaining now m
remaining-twice done ids now [] h = refl
remaining-twice done ids now (e ∷ m) h =
    let rest = remaining-twice done ids now m h in
    let deps : filter (λ (x : Id). not (is_among ids x)) (filter (λ (x : Id). not (is_among done x))
    e.deps) ≡ filter (λ (x : Id). not (is_among now x)) e.deps =
    filter-twice (λ (x : Id). not (is_among ids x)) (λ (x : Id). not (is_among done x))
    (λ (x : Id). not (is_among now x)) e.deps (λ x. among_both done ids now x (h x)) in
    elim (is_among-cases done e.id) [
      | inl old ↦ rw (old.0, is_among-true now e.id ((h e.id).1 (inl old.1))) rest
      | inr none ↦ elim (is_among-cases ids e.id) [
        | inl new ↦ rw none.0 (rw (new.0, is_among-true now e.id ((h e.id).1 (inr new.1))) rest)
        | inr neither ↦
            let left : is_among now e.id ≡ false =
            is_among-false now e.id (λ there. elim ((h e.id).0
            there) [ inl a ↦ none.1 a | inr b ↦ neither.1 b ]) in
            rw none.0 (rw (neither.0, left) (
            λ i. record { id = e.id; seq = e.seq; deps = deps i; ops = e.ops } ∷ rest i
            ))
      ]
    ]

-- the test whether an instance is left, turned
pub not-is_false : (r b : Bool) → r ≡ not b → r ≡ false → b ≡ true
not-is_false r true e f = refl
not-is_false r false e f = absurd (cc (e, f))

pub not-is_true : (r b : Bool) → r ≡ not b → r ≡ true → b ≡ false
not-is_true r true e f = absurd (cc (e, f))
not-is_true r false e f = refl
