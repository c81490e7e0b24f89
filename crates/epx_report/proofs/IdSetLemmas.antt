-- The rising and the late Ids of a set.
use Rattle.std.proofs.Common.{◌≡◌, ◌⊎◌, inl, inr, ℕ, true, false, cond, nat_lt, not, ◌==◌, ◌&&◌}
use Rattle.std.proofs.Common.{Bool, Ordering, Less, Equal, Greater, is_lt, List, [], ◌∷◌, ◌++◌}
use Rattle.std.proofs.Common.{Contains, Some, refl, sym, ap, ap₂, ◌∙◌, Option, None, MatchOption}
use Rattle.std.proofs.Common.{is_some, slice_get, subst, arith}
use Rattle.epx_types.proofs.Common.{insert_key, IsSorted, IsPermutation, is_eq, nat_cmp}
use Rattle.epx_types.proofs.Common.{ordering_then, eq_by_cmp, IsEquivalence, cases_Bool, nat_tests}
use Rattle.epx_types.proofs.Common.{Contains-append_left, Contains-append_right}
use Rattle.epx_types.proofs.Common.{Contains-append_cases, Contains-push, Contains-push_cases}
use Rattle.epx_types.proofs.Common.{Contains-permutation, IsPermutation-sym, slice_get_within}
use Rattle.epx_types.proofs.Common.{get_or_from_slice_get, id_cmp, Below, IsRising, is_among}
use Rattle.epx_types.proofs.Common.{Contains-nil, Contains-head, Contains-cons, Contains-cons_cases}
use Rattle.epx_types.proofs.Common.{id_cmp-IsTotalOrder, id_cmp-IsAntisymmetric, is_lt-irrefl}
use Rattle.epx_types.proofs.Common.{is_lt-trans}
use Rattle.epx_types.proofs.Common.{IsRising-is_unique, IsRising-push, IsRising-from_strict}
use Rattle.epx_types.proofs.Common.{is_among-cases}
use Rattle.epx_types.specs.declared.id.Id.{Id}
use Rattle.std.specs.List.{dedup}
use Rattle.std.specs.List.Retain.{IsFiltered, DiffersFromLast}
use Rattle.std.specs.Cmp.{eq_by_cmp_equiv}
use Rattle.std.proofs.lemmas.List.Filters.{dedup_is}
use Rattle.std.proofs.lemmas.List.Kept.{Contains-dedup, Contains-from_dedup}
use Rattle.std.proofs.lemmas.List.Kept.{IsStrictlySortedBy-dedup}
use Rattle.epx_lines.proofs.EntryLemmas.{IsRising-insert, IsRising-fold}
use Rattle.epx_report.specs.inner.Progress.{last, is_after_last}
use Rattle.epx_report.specs.inner.IdSets.{with_late, AreRisingAndLate}
use Rattle.epx_report.proofs.RisingListLemmas.{Contains-insert_itself, Contains-insert_other}
use Rattle.epx_report.proofs.RisingListLemmas.{Contains-insert_cases, last-cons}

-- ---- which Ids are among them

pub Contains-with_rising : (rising late : List Id) (x : Id) → Contains rising x
    → Contains (with_late rising late) x
Contains-with_rising rising [] x h = h
Contains-with_rising rising (y ∷ late) x h =
    Contains-with_rising (insert_key id_cmp rising y) late x (Contains-insert_other rising y x h)

pub Contains-with_late : (rising late : List Id) (x : Id) → Contains late x
    → Contains (with_late rising late) x
Contains-with_late rising [] x h = absurd (Contains-nil x h)
Contains-with_late rising (y ∷ late) x h =
    elim (Contains-cons_cases y late x h) [
      | inl same ↦ Contains-with_rising (insert_key id_cmp rising y) late x
          (subst (Contains (insert_key id_cmp rising y)) same (Contains-insert_itself rising y))
      | inr rest ↦ Contains-with_late (insert_key id_cmp rising y) late x rest
    ]

pub Contains-with_cases : (rising late : List Id) (x : Id) → Contains (with_late rising late) x
    → Contains rising x ⊎ Contains late x
Contains-with_cases rising [] x h = inl h
Contains-with_cases rising (y ∷ late) x h =
    elim (Contains-with_cases (insert_key id_cmp rising y) late x h) [
      | inl among ↦ elim (Contains-insert_cases rising y x among) [
        | inl same ↦ inr (subst (Contains (y ∷ late)) same (Contains-head y late))
        | inr was ↦ inl was
      ]
      | inr rest ↦ inr (Contains-cons y late x rest)
    ]

pub is_among-if_missing : (xs : List Id) (x : Id) → ¬ Contains xs x → is_among xs x ≡ false
is_among-if_missing xs x h = elim (is_among-cases xs x)
    [ inl found ↦ absurd (h found.1) | inr missed ↦ missed.0 ]

among : (xs : List Id) (x : Id) → Contains xs x → is_among xs x ≡ true
among xs x h = elim (is_among-cases xs x)
    [ inl found ↦ found.0 | inr missed ↦ absurd (missed.1 h) ]

contained : (xs : List Id) (x : Id) → is_among xs x ≡ true → Contains xs x
contained xs x e = elim (is_among-cases xs x)
    [ inl found ↦ found.1 | inr missed ↦ absurd (cc (e, missed.0)) ]

-- ---- the last one

pub last-push : (xs : List Id) (x : Id) → last (xs ++ x ∷ []) ≡ Some x
last-push [] x = refl
last-push (y ∷ []) x = refl
last-push (y ∷ z ∷ zs) x = last-cons y z (zs ++ x ∷ []) ∙ last-push (z ∷ zs) x

pub Below-if_after_last : (xs : List Id) (x y : Id) → IsRising xs
    → is_after_last id_cmp (last xs) x ≡ true
    → Contains xs y → Below y x
Below-if_after_last [] x y rising past h = absurd (Contains-nil y h)
Below-if_after_last (z ∷ []) x y rising past h =
    elim (Contains-cons_cases z [] y h) [
      | inl same ↦ subst (λ w. Below w x) same past
      | inr none ↦ absurd (Contains-nil y none)
    ]
Below-if_after_last (z ∷ w ∷ ws) x y rising past h =
    let further : is_after_last id_cmp (last (w ∷ ws)) x ≡ true =
    ap (λ o. is_after_last id_cmp o x) (sym (last-cons z w ws)) ∙ past in
    elim (Contains-cons_cases z (w ∷ ws) y h) [
      | inl same ↦ subst (λ v. Below v x) same
          (is_lt-trans id_cmp-IsTotalOrder z w x rising.0.0
          (Below-if_after_last (w ∷ ws) x w rising.1 further (Contains-head w ws)))
      | inr rest ↦ Below-if_after_last (w ∷ ws) x y rising.1 further rest
    ]

-- no Id of a rising list is greater than all of them
within_not_above : (xs : List Id) (x : Id) → IsRising xs → Contains xs x
    → is_after_last id_cmp (last xs) x ≡ false
within_not_above xs x rising h =
    elim (cases_Bool (is_after_last id_cmp (last xs) x)) [
      | inl past ↦ absurd
          (is_lt-irrefl id_cmp-IsTotalOrder x (Below-if_after_last xs x x rising past h))
      | inr level ↦ level
    ]

-- an Id of a rising list is its last one if no Id of the list is greater
last_is : (xs : List Id) (l : Id) → IsRising xs → Contains xs l
    → ((x : Id) → Contains xs x → is_after_last id_cmp (Some l) x ≡ false) → last xs ≡ Some l
last_is [] l rising h level = absurd (Contains-nil l h)
last_is (x ∷ []) l rising h level =
    elim (Contains-cons_cases x [] l h) [
      | inl same ↦ ap Some same
      | inr none ↦ absurd (Contains-nil l none)
    ]
last_is (x ∷ y ∷ ys) l rising h level =
    last-cons x y ys ∙ elim (Contains-cons_cases x (y ∷ ys) l h) [
      | inl same ↦
          let up : is_after_last id_cmp (Some l) y ≡ true =
          subst (λ z. is_after_last id_cmp (Some z) y ≡ true) same rising.0.0 in
          absurd (cc (up, level y (Contains-cons x (y ∷ ys) y (Contains-head y ys))))
      | inr rest ↦ last_is (y ∷ ys) l rising.1 rest (λ z k. level z (Contains-cons x (y ∷ ys) z k))
    ]

last_of : (xs : List Id) → (xs ≡ []) ⊎ ((l : Id) × (last xs ≡ Some l) × Contains xs l)
last_of [] = inl refl
last_of (x ∷ []) = inr (x, refl, Contains-head x [])
last_of (x ∷ y ∷ ys) =
    elim (last_of (y ∷ ys)) [
      | inl none ↦ absurd (cc none)
      | inr some ↦ inr (some.0, last-cons x y ys ∙ some.1, Contains-cons x (y ∷ ys) some.0 some.2)
    ]

module _ (rising late : List Id) (h : AreRisingAndLate rising late) where
  none_above_last : (x : Id) → Contains (with_late rising late) x
      → is_after_last id_cmp (last rising) x ≡ false
  none_above_last x k = elim (Contains-with_cases rising late x k)
      [ inl was ↦ within_not_above rising x h.rises was | inr rest ↦ h.not_past x rest ]

  pub IsRising-with_late : IsRising (with_late rising late)
  IsRising-with_late = IsRising-fold rising late h.rises

  pub last-with_late : last rising ≡ last (with_late rising late)
  last-with_late =
      elim (last_of rising) [
        | inl none ↦ elim (last_of (with_late rising late)) [
          | inl all ↦ ap last (none ∙ sym all)
          | inr some ↦ let level : true ≡ false =
              sym (ap (λ xs. is_after_last id_cmp (last xs) some.0) none)
              ∙ none_above_last some.0 some.2 in absurd (cc level)
        ]
        | inr some ↦
            some.1 ∙ sym (last_is (with_late rising late) some.0 IsRising-with_late
            (Contains-with_rising rising late some.0 some.2)
            (λ x k. ap (λ o. is_after_last id_cmp o x) (sym some.1) ∙ none_above_last x k))
      ]

  -- ---- an Id greater than all others

  module _ (x : Id) (past : is_after_last id_cmp (last rising) x ≡ true) where
    pub is_among-if_above : true ≡ not (is_among (with_late rising late) x)
    is_among-if_above =
        sym (ap not (is_among-if_missing (with_late rising late) x
        (λ k. let level = none_above_last x k in absurd (cc (past, level)))))

    rising_pushed : IsRising (rising ++ x ∷ [])
    rising_pushed =
        IsRising-push rising x h.rises (λ y k. Below-if_after_last rising x y h.rises past k)

    pub AreRisingAndLate-push : AreRisingAndLate (rising ++ x ∷ []) late
    AreRisingAndLate-push = record {
      rises = rising_pushed;
      not_past = λ y k. elim (cases_Bool (is_after_last id_cmp (last (rising ++ x ∷ [])) y)) [
        | inl up ↦
            let above : Below x y = sym (ap (λ o. is_after_last id_cmp o y) (last-push rising x))
            ∙ up in
            elim (last_of rising) [
              | inl none ↦ let level = ap (λ xs. is_after_last id_cmp (last xs) y) (sym none)
                  ∙ h.not_past y k in absurd (cc level)
              | inr some ↦
                  let first : Below some.0 x =
                  Below-if_after_last rising x some.0 h.rises past some.2 in
                  let level : is_lt (id_cmp some.0 y) ≡ false =
                  ap (λ o. is_after_last id_cmp o y) (sym some.1) ∙ h.not_past y k in
                  let whole = is_lt-trans id_cmp-IsTotalOrder some.0 x y first above in
                  absurd (cc (level, whole))
            ]
        | inr level ↦ level
      ];
    }

    pub with_late-pushed : with_late (rising ++ x ∷ []) late
        ≡ insert_key id_cmp (with_late rising late) x
    with_late-pushed =
        IsRising-is_unique (with_late (rising ++ x ∷ []) late)
        (insert_key id_cmp (with_late rising late) x)
        (IsRising-fold (rising ++ x ∷ []) late rising_pushed)
        (IsRising-insert x (with_late rising late) IsRising-with_late)
        (λ y k. elim (Contains-with_cases (rising ++ x ∷ []) late y k) [
          | inl front ↦ elim (Contains-push_cases rising x y front) [
            | inl was ↦ Contains-insert_other (with_late rising late) x y
                (Contains-with_rising rising late y was)
            | inr same ↦ subst (Contains (insert_key id_cmp (with_late rising late) x)) same
                (Contains-insert_itself (with_late rising late) x)
          ]
          | inr rest ↦ Contains-insert_other (with_late rising late) x y
              (Contains-with_late rising late y rest)
        ])
        (λ y k. elim (Contains-insert_cases (with_late rising late) x y k) [
          | inl same ↦ Contains-with_rising (rising ++ x ∷ []) late y
              (subst (Contains (rising ++ x ∷ [])) same (Contains-push rising x))
          | inr was ↦ elim (Contains-with_cases rising late y was) [
            | inl front ↦ Contains-with_rising (rising ++ x ∷ []) late y
                (Contains-append_left rising (x ∷ []) y front)
            | inr rest ↦ Contains-with_late (rising ++ x ∷ []) late y rest
          ]
        ])

  -- ---- an Id that is in the set

  module _ (x : Id) where
    pub is_among-rising : is_among rising x ≡ true → is_among (with_late rising late) x ≡ true
    is_among-rising e = among (with_late rising late) x
        (Contains-with_rising rising late x (contained rising x e))

    pub is_among-late : is_among rising x ≡ false
        → is_among late x ≡ is_among (with_late rising late) x
    is_among-late e =
        let missed : ¬ Contains rising x = λ k. let found = among rising x k in
        absurd (cc (e, found)) in
        elim (is_among-cases late x) [
          | inl found ↦ found.0 ∙ sym
              (among (with_late rising late) x (Contains-with_late rising late x found.1))
          | inr none ↦ none.0 ∙ sym
              (is_among-if_missing (with_late rising late) x
              (λ k. elim (Contains-with_cases rising late x k)
              [ inl front ↦ missed front | inr rest ↦ none.1 rest ]))
        ]

    pub with_late-if_present : is_among rising x ≡ true
        → with_late rising late ≡ insert_key id_cmp (with_late rising late) x
    with_late-if_present e =
        let k : Contains (with_late rising late) x =
        Contains-with_rising rising late x (contained rising x e) in
        IsRising-is_unique (with_late rising late) (insert_key id_cmp (with_late rising late) x)
        IsRising-with_late (IsRising-insert x (with_late rising late) IsRising-with_late)
        (λ y j. Contains-insert_other (with_late rising late) x y j)
        (λ y j. elim (Contains-insert_cases (with_late rising late) x y j)
        [ inl same ↦ subst (Contains (with_late rising late)) same k | inr was ↦ was ])

    -- ---- an Id that is late

    pub AreRisingAndLate-insert : is_after_last id_cmp (last rising) x ≡ false
        → AreRisingAndLate rising (insert_key id_cmp late x)
    AreRisingAndLate-insert level = record {
      rises = h.rises;
      not_past = λ y k. elim (Contains-insert_cases late x y k) [
        | inl same ↦ subst (λ z. is_after_last id_cmp (last rising) z ≡ false) same level
        | inr was ↦ h.not_past y was
      ];
    }

    pub with_late-inserted : with_late rising (insert_key id_cmp late x)
        ≡ insert_key id_cmp (with_late rising late) x
    with_late-inserted =
        IsRising-is_unique (with_late rising (insert_key id_cmp late x))
        (insert_key id_cmp (with_late rising late) x)
        (IsRising-fold rising (insert_key id_cmp late x) h.rises)
        (IsRising-insert x (with_late rising late) IsRising-with_late)
        (λ y k. elim (Contains-with_cases rising (insert_key id_cmp late x) y k) [
          | inl front ↦ Contains-insert_other (with_late rising late) x y
              (Contains-with_rising rising late y front)
          | inr rest ↦ elim (Contains-insert_cases late x y rest) [
            | inl same ↦ subst (Contains (insert_key id_cmp (with_late rising late) x)) same
                (Contains-insert_itself (with_late rising late) x)
            | inr was ↦ Contains-insert_other (with_late rising late) x y
                (Contains-with_late rising late y was)
          ]
        ])
        (λ y k. elim (Contains-insert_cases (with_late rising late) x y k) [
          | inl same ↦ Contains-with_late rising (insert_key id_cmp late x) y
              (subst (Contains (insert_key id_cmp late x)) same (Contains-insert_itself late x))
          | inr was ↦ elim (Contains-with_cases rising late y was) [
            | inl front ↦ Contains-with_rising rising (insert_key id_cmp late x) y front
            | inr rest ↦ Contains-with_late rising (insert_key id_cmp late x) y
                (Contains-insert_other late x y rest)
          ]
        ])

-- ---- the binary search

-- whether a search finds an Id says whether it is among them
pub is_some-among : (xs : List Id) (x : Id) (found : Option ℕ)
    → MatchOption found (¬ Contains xs x) (λ k. slice_get xs k ≡ Some x)
    → is_some found ≡ is_among xs x
is_some-among xs x None h = sym (is_among-if_missing xs x h)
is_some-among xs x (Some k) h =
    sym (among xs x (k, slice_get_within xs k x h, get_or_from_slice_get xs k x x h))

-- ---- the Ids as a vector

tie_then : (r o : Ordering) → is_eq (ordering_then r o) ≡ (is_eq r && is_eq o)
tie_then Less o = refl
tie_then Equal o = refl
tie_then Greater o = refl

tie_nat : (a b : ℕ) → is_eq (nat_cmp a b) ≡ (a == b)
tie_nat a b =
    elim (nat_lt a b) as (λ t. nat_lt a b ≡ t
    → is_eq (cond t Less (cond (a == b) Equal Greater)) ≡ (a == b)) [
      | true ↦ λ e. let other : (a == b) ≡ false = grind (arith, nat_tests) in sym other
      | false ↦ λ e. elim (a == b) as (λ t. is_eq (cond t Equal Greater) ≡ t)
          [ true ↦ refl | false ↦ refl ]
    ] refl

-- two Ids are equal exactly if their order is equal
pub eq_by_cmp-id : (x y : Id) → ((x.replica == y.replica) && (x.number == y.number))
    ≡ eq_by_cmp id_cmp x y
eq_by_cmp-id x y = ap₂ (λ a b. a && b) (sym (tie_nat x.replica y.replica))
    (sym (tie_nat x.number y.number)) ∙ sym
    (tie_then (nat_cmp x.replica y.replica) (nat_cmp x.number y.number))

-- the rising and the late Ids, sorted and without repeats
pub with_late-from_sorted : (eq : Id → Id → Bool)
    (ties : (x y : Id) → eq x y ≡ eq_by_cmp id_cmp x y)
    (rising late both sorted ids : List Id) → AreRisingAndLate rising late → both ≡ rising ++ late
    → IsPermutation both sorted → IsSorted id_cmp sorted
    → IsFiltered (DiffersFromLast eq) [] sorted ids → ids ≡ with_late rising late
with_late-from_sorted eq ties rising late both sorted ids h is moved up kept =
    let left : ids ≡ dedup eq sorted = dedup_is eq sorted ids kept in
    let strict : IsRising (dedup eq sorted) =
    IsRising-from_strict (dedup eq sorted)
    (IsStrictlySortedBy-dedup id_cmp-IsTotalOrder ties sorted up) in
    let exact : (x y : Id) → eq x y ≡ true → x ≡ y =
    λ x y e. id_cmp-IsAntisymmetric x y (tie (id_cmp x y) (sym (ties x y) ∙ e)) in
    left ∙ IsRising-is_unique (dedup eq sorted) (with_late rising late) strict
    (IsRising-fold rising late h.rises)
    (λ x k.
    let among = subst (λ xs. Contains xs x) is
    (Contains-permutation sorted both x (IsPermutation-sym both sorted moved)
    (Contains-from_dedup eq sorted x k)) in
    elim (Contains-append_cases rising late x among) [
      | inl front ↦ Contains-with_rising rising late x front
      | inr rest ↦ Contains-with_late rising late x rest
    ])
    (λ x k.
    let among : Contains (rising ++ late) x =
    elim (Contains-with_cases rising late x k) [
      | inl front ↦ Contains-append_left rising late x front
      | inr rest ↦ Contains-append_right rising late x rest
    ] in
    Contains-dedup
    (subst IsEquivalence (sym (same_tests eq ties)) (eq_by_cmp_equiv id_cmp-IsTotalOrder))
    exact sorted x (Contains-permutation both sorted x moved
    (subst (λ xs. Contains xs x) (sym is) among)))
  where
    tie : (o : Ordering) → is_eq o ≡ true → o ≡ Equal
    tie Less e = absurd (cc e)
    tie Equal e = refl
    tie Greater e = absurd (cc e)

    same_tests : (eq : Id → Id → Bool) → ((x y : Id) → eq x y ≡ eq_by_cmp id_cmp x y)
        → eq ≡ eq_by_cmp id_cmp
    same_tests eq ties = λ i x y. ties x y i
