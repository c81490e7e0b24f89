-- The first of some lines that names an instance.
use Rattle.std.proofs.Common.{◌≡◌, ◌≢◌, ◌⊎◌, inl, inr, ◌∙◌, true, List, [], ◌∷◌, ◌++◌}
use Rattle.std.proofs.Common.{Contains, Option, None, Some, refl, sym, ap, subst}
use Rattle.epx_types.proofs.Common.{AllPairs-from_rising_ids, Below, Contains-cons}
use Rattle.epx_types.proofs.Common.{Contains-cons_cases, Contains-head, Contains-nil, Instance}
use Rattle.epx_types.proofs.Common.{IsRising, Placed, is_lt-irrefl, cases_Bool, id_cmp}
use Rattle.epx_types.proofs.Common.{id_cmp-IsAntisymmetric, id_cmp-IsTotalOrder, ids_of, is_eq}
use Rattle.epx_types.proofs.Common.{map-map}
use Rattle.std.specs.Cmp.{Equal-is, tied_itself}
use Rattle.epx_types.proofs.lists.ListPositionLemmas.{AllPairs-same}
use Rattle.epx_types.specs.declared.id.Id.{Id}
use Rattle.epx_follow.specs.BatchEnds.{first_line}
use Rattle.epx_follow.specs.Following.{instances_of}

-- ---- the test of a line

names_itself : (x : Id) → is_eq (id_cmp x x) ≡ true
names_itself x = ap is_eq (tied_itself id_cmp-IsTotalOrder x)

pub id_cmp-from_same : (x y : Id) → x ≡ y → is_eq (id_cmp x y) ≡ true
id_cmp-from_same x y here = sym (ap (λ (z : Id). is_eq (id_cmp x z)) here) ∙ names_itself x

pub id_cmp-to_same : (x y : Id) → is_eq (id_cmp x y) ≡ true → x ≡ y
id_cmp-to_same x y here = id_cmp-IsAntisymmetric x y ((Equal-is (id_cmp x y)).0 here)

-- ---- what the first line is

pub first_line-found : (lines : List Placed) (x : Id) (p : Placed) → first_line lines x ≡ Some p
    → Contains lines p × (p.instance.id ≡ x)
first_line-found [] x p found = absurd (cc found)
first_line-found (q ∷ lines) x p found =
    elim (cases_Bool (is_eq (id_cmp q.instance.id x))) [
      | inl here ↦
          let same : q ≡ p = cc (rw here at found) in (
            subst (Contains (q ∷ lines)) same (Contains-head q lines),
            ap (λ (l : Placed). l.instance.id) (sym same) ∙ id_cmp-to_same q.instance.id x here,
          )
      | inr other ↦ let rest = first_line-found lines x p (rw other at found) in
          (Contains-cons q lines p rest.0, rest.1)
    ]

-- a line names its instance, so there is a first one
pub first_line-finds : (lines : List Placed) (p : Placed) → Contains lines p
    → (q : Placed) × (first_line lines p.instance.id ≡ Some q)
first_line-finds [] p h = absurd (Contains-nil p h)
first_line-finds (q ∷ lines) p h =
    elim (cases_Bool (is_eq (id_cmp q.instance.id p.instance.id))) [
      | inl here ↦ (q, rw here refl)
      | inr other ↦ elim (Contains-cons_cases q lines p h) [
        | inl same ↦
            let here = id_cmp-from_same q.instance.id p.instance.id
            (ap (λ (l : Placed). l.instance.id) same) in
            absurd (cc (here, other))
        | inr rest ↦ let found = first_line-finds lines p rest in (found.0, rw other found.1)
      ]
    ]

pub first_line-cases : (lines : List Placed) (x : Id)
    → (first_line lines x ≡ None) ⊎ ((p : Placed) × (first_line lines x ≡ Some p))
first_line-cases lines x = by (first_line lines x) refl
  where
    by : (o : Option Placed) → first_line lines x ≡ o
        → (first_line lines x ≡ None) ⊎ ((p : Placed) × (first_line lines x ≡ Some p))
    by None e = inl e
    by (Some p) e = inr (p, e)

-- ---- lines after others

pub first_line-earlier : (lines more : List Placed) (x : Id) (p : Placed)
    → first_line lines x ≡ Some p → first_line (lines ++ more) x ≡ Some p
first_line-earlier [] more x p found = absurd (cc found)
first_line-earlier (q ∷ lines) more x p found =
    elim (cases_Bool (is_eq (id_cmp q.instance.id x))) [
      | inl here ↦ rw here (rw here at found)
      | inr other ↦ rw other (first_line-earlier lines more x p (rw other at found))
    ]

pub first_line-later : (lines more : List Placed) (x : Id) → first_line lines x ≡ None
    → first_line (lines ++ more) x ≡ first_line more x
first_line-later [] more x none = refl
first_line-later (q ∷ lines) more x none =
    elim (cases_Bool (is_eq (id_cmp q.instance.id x))) [
      | inl here ↦ absurd (cc (rw here at none))
      | inr other ↦ rw other (first_line-later lines more x (rw other at none))
    ]

pub first_line-one : (p : Placed) (x : Id) → x ≡ p.instance.id
    → first_line (p ∷ []) x ≡ Some p
first_line-one p x here =
    let named = id_cmp-from_same p.instance.id x (sym here) in rw named refl

pub first_line-other : (p : Placed) (x : Id) → x ≢ p.instance.id → first_line (p ∷ []) x ≡ None
first_line-other p x apart = elim (cases_Bool (is_eq (id_cmp p.instance.id x))) [
  | inl here ↦ absurd (apart (sym (id_cmp-to_same p.instance.id x here)))
  | inr other ↦ rw other refl
]

-- ---- lines whose Ids rise

-- lines of one instance are one line
pub Placed-same_instance : (lines : List Placed) → IsRising (ids_of (instances_of lines))
    → (p q : Placed)
    → Contains lines p → Contains lines q → p.instance.id ≡ q.instance.id → p ≡ q
Placed-same_instance lines rising p q in_p in_q same =
    AllPairs-same (λ (a b : Placed). Below a.instance.id b.instance.id) lines
    (AllPairs-from_rising_ids (λ (a : Placed). a.instance.id) lines
    (subst IsRising (map-map (λ (e : Instance). e.id) (λ (a : Placed). a.instance) lines) rising))
    p q in_p in_q
    (λ l. is_lt-irrefl id_cmp-IsTotalOrder p.instance.id (subst (Below p.instance.id) (sym same) l))
    (λ l. is_lt-irrefl id_cmp-IsTotalOrder q.instance.id (subst (Below q.instance.id) same l))

-- each is the first of its instance
pub first_line-rising : (lines : List Placed) → IsRising (ids_of (instances_of lines))
    → (p : Placed) → Contains lines p → first_line lines p.instance.id ≡ Some p
first_line-rising lines rising p h =
    let found = first_line-finds lines p h in
    let known = first_line-found lines p.instance.id found.0 found.1 in
    found.1 ∙ ap Some (Placed-same_instance lines rising found.0 p known.0 h known.1)
