-- Runs of consecutive numbers: which Ids are in them, and how they lie.
use Rattle.std.proofs.Common.{◌≡◌, ◌⊎◌, ◌↔◌, ℕ, ◌+◌, ◌-◌, ◌<◌, ◌≤◌, List, [], ◌∷◌, ◌++◌, length}
use Rattle.std.proofs.Common.{get_or, map, Contains, All, AllPairs, refl, sym, ap, subst, inl, inr}
use Rattle.std.proofs.Common.{◌∙◌, arith, Some, true, false, zero, suc, Ordering, take}
use Rattle.std.specs.List.{range_with_len}
use Rattle.epx_types.proofs.Common.{IsSorted, IsPermutation, nat_cmp, is_lt, cases_lt, cases_eq}
use Rattle.epx_types.proofs.Common.{nat_tests, get_or_append_left, get_or_default, take_more}
use Rattle.epx_types.proofs.Common.{length-append, get_or-append_seam, Contains-append_left}
use Rattle.epx_types.proofs.Common.{Contains-append_right, Contains-append_cases, All-push, All-pop}
use Rattle.epx_types.proofs.Common.{All-contains, All-append, Contains-permutation}
use Rattle.epx_types.proofs.Common.{IsPermutation-sym, all_pairs_push, Below, UpTo}
use Rattle.epx_types.proofs.Common.{id_cmp-IsTotalOrder}
use Rattle.epx_types.proofs.Common.{id_cmp-IsAntisymmetric, Contains-nil, Contains-head}
use Rattle.epx_types.proofs.Common.{Contains-cons_cases, Contains-map, Contains-from_map}
use Rattle.epx_types.proofs.Common.{Contains-flat_map, Contains-from_flat_map, is_lt-trans}
use Rattle.epx_types.proofs.Common.{is_lt-cases}
use Rattle.epx_types.specs.declared.id.Id.{Id}
use Rattle.std.specs.Ordering.{is_some_and, partial_ordering_then}
use Rattle.std.proofs.lemmas.List.FromFn.{length-range_with_len, get_or-range_with_len}
use Rattle.epx_graph.proofs.Common.{is_lt-from_lt}
use Rattle.epx_executor.specs.declared.done_runs.Run.{Run}
use Rattle.epx_executor.specs.contracts.done_runs.RunOrd.TheImpl as run_ord
use Rattle.epx_executor.specs.Runs.{AreFilled, AreRuns, BeginInOrder, start_of, ids_in}
use Rattle.epx_executor.specs.Runs.{ids_of_run, IsFilledRun, IsInRun, IsInRuns, end_of}

-- ---- the Ids of runs

Contains-numbers : (a n x : ℕ) → a ≤ x → x < a + n → Contains (range_with_len a n) x
Contains-numbers a n x low high = (
  x - a,
  omega (arith, length-range_with_len a n),
  get_or-range_with_len a n (x - a) x (omega arith) ∙ omega arith,
)

from_numbers : (a n x : ℕ) → Contains (range_with_len a n) x → (a ≤ x) × (x < a + n)
from_numbers a n x h =
    let l : h.0 < n = omega (arith, length-range_with_len a n) in
    let e : a + h.0 ≡ x = sym (get_or-range_with_len a n h.0 x l) ∙ h.2 in
    (omega arith, omega arith)

Contains-ids_of_run : (r : Run) (x : Id) → IsInRun r x → Contains (ids_of_run r) x
unfolding ids_of_run
Contains-ids_of_run r x h =
    let id_at : ℕ → Id = λ n. record { replica = r.replica; number = n } in
    let there = Contains-map id_at (range_with_len r.first (r.last + 1 - r.first)) x.number
    (Contains-numbers r.first (r.last + 1 - r.first) x.number h.1 (omega arith)) in
    subst (λ (n : ℕ). Contains (map id_at (range_with_len r.first (r.last + 1 - r.first)))
    (record { replica = n; number = x.number })) (sym h.0) there

from_ids_of_run : (r : Run) (x : Id) → Contains (ids_of_run r) x → IsInRun r x
unfolding ids_of_run
from_ids_of_run r x h =
    let id_at : ℕ → Id = λ n. record { replica = r.replica; number = n } in
    let n = Contains-from_map id_at (range_with_len r.first (r.last + 1 - r.first)) x h in
    let within = from_numbers r.first (r.last + 1 - r.first) n.0 n.1 in
    let same : n.0 ≡ x.number = ap (λ (i : Id). i.number) n.2 in
    (sym (ap (λ (i : Id). i.replica) n.2), omega arith, omega arith)

pub Contains-ids_in : (runs : List Run) (x : Id) → IsInRuns runs x → Contains (ids_in runs) x
unfolding ids_in
Contains-ids_in runs x h =
    Contains-flat_map ids_of_run runs h.0 x h.1 (Contains-ids_of_run h.0 x h.2)

pub IsInRuns-from_ids_in : (runs : List Run) (x : Id) → Contains (ids_in runs) x → IsInRuns runs x
unfolding ids_in
IsInRuns-from_ids_in runs x h =
    let r = Contains-from_flat_map ids_of_run runs x h in
    (r.0, r.1, from_ids_of_run r.0 x r.2)

pub ids_in-nil : ids_in [] ≡ []
unfolding ids_in
ids_in-nil = refl

-- ---- Ids between the ends of a run

below_numbers : (x y : Id) → Below x y
    → (x.replica < y.replica) ⊎ (x.replica ≡ y.replica) × (x.number < y.number)
below_numbers x y h = grind (arith, nat_tests)

below_from_numbers : (x y : Id)
    → (x.replica < y.replica) ⊎ (x.replica ≡ y.replica) × (x.number < y.number) → Below x y
below_from_numbers x y h = grind (arith, nat_tests)

-- `<` of two Ids, from the comparisons of their fields
pub Below-from_lt : (x y : Id) → is_some_and is_lt (partial_ordering_then
    (Some (nat_cmp x.replica y.replica)) (Some (nat_cmp x.number y.number))) ≡ true → Below x y
Below-from_lt x y h = is_lt-from_lt (nat_cmp x.replica y.replica) (nat_cmp x.number y.number) h

-- a run that is not less than another one does not begin before it
pub Run-by_first : (a b : Run) → is_lt (run_ord.cmp-value.it b a) ≡ false
    → UpTo (start_of a) (start_of b)
Run-by_first a b h =
    elim (is_lt-cases id_cmp-IsTotalOrder id_cmp-IsAntisymmetric (start_of a) (start_of b)) [
      | inl lower ↦ inr lower
      | inr (inl same) ↦ inl same
      | inr (inr back) ↦ absurd (less (below_numbers (start_of b) (start_of a) back))
    ]
  where
    less : (b.replica < a.replica) ⊎ (b.replica ≡ a.replica) × (b.first < a.first) → ⊥
    less k = grind (arith, nat_tests)

-- an Id in a run is not below its first one
pub Below-not_start_of : (r : Run) (x : Id) → IsInRun r x → ¬ Below x (start_of r)
Below-not_start_of r x h l = elim (below_numbers x (start_of r) l) [
  | inl lower ↦ absurd (omega (arith, h.0))
  | inr same ↦ absurd (omega (arith, h.1, same.1))
]

-- the last Id of a run is not below an Id in it
pub Below-not_end_of : (r : Run) (x : Id) → IsInRun r x → ¬ Below (end_of r) x
Below-not_end_of r x h l = elim (below_numbers (end_of r) x l) [
  | inl lower ↦ absurd (omega (arith, h.0))
  | inr same ↦ absurd (omega (arith, h.2, same.1))
]

-- the first Id of a run, and the last one
first_upto_last : (r : Run) → IsFilledRun r → UpTo (start_of r) (end_of r)
first_upto_last r filled = elim (cases_eq r.first r.last) [
  | inl same ↦ inl (ap (λ (n : ℕ). record { replica = r.replica; number = n }) same)
  | inr other ↦ inr (below_from_numbers (start_of r) (end_of r) (inr (refl, omega arith)))
]

upto_below : (x y z : Id) → UpTo x y → Below y z → Below x z
upto_below x y z (inl e) l = subst (λ (w : Id). Below w z) (sym e) l
upto_below x y z (inr k) l = is_lt-trans id_cmp-IsTotalOrder x y z k l

below_upto : (x y z : Id) → Below x y → UpTo y z → Below x z
below_upto x y z l (inl e) = subst (Below x) e l
below_upto x y z l (inr k) = is_lt-trans id_cmp-IsTotalOrder x y z l k

upto_trans : (x y z : Id) → UpTo x y → UpTo y z → UpTo x z
upto_trans x y z (inl e) l = subst (λ (w : Id). UpTo w z) (sym e) l
upto_trans x y z (inr k) (inl e) = inr (subst (Below x) e k)
upto_trans x y z (inr k) (inr l) = inr (is_lt-trans id_cmp-IsTotalOrder x y z k l)

-- ---- runs that are appended

pub AreRuns-push : (runs : List Run) (run : Run) → AreRuns runs → IsFilledRun run
    → All (λ r. Below (end_of r) (start_of run)) runs → AreRuns (runs ++ run ∷ [])
AreRuns-push runs run are filled apart = record {
  filled = All-push IsFilledRun runs run are.filled filled;
  apart = all_pairs_push (λ a b. Below (end_of a) (start_of b)) runs run are.apart apart;
}

-- the first run
pub AreRuns-first : (runs : List Run) (run : Run) → length runs ≡ 0 → IsFilledRun run
    → AreRuns (runs ++ run ∷ [])
AreRuns-first runs run none filled =
    AreRuns-push runs run (record {
      filled = λ k d l. absurd (omega (arith, none));
      apart = λ i j d l k. absurd (omega (arith, none));
    }) filled (λ k d l. absurd (omega (arith, none)))

module _ {X : Type 0} (R : X → X → Type 0) (xs : List X) (x : X)
    (h : AllPairs R (xs ++ x ∷ [])) where
  AllPairs-front : AllPairs R xs
  AllPairs-front i j d l k =
      let first : get_or (xs ++ x ∷ []) i d ≡ get_or xs i d =
      get_or_append_left xs (x ∷ []) d i (omega arith) in
      let second : get_or (xs ++ x ∷ []) j d ≡ get_or xs j d =
      get_or_append_left xs (x ∷ []) d j k in
      let here : R (get_or (xs ++ x ∷ []) i d) (get_or (xs ++ x ∷ []) j d) =
      h i j d l (omega (arith, length-append xs (x ∷ []))) in
      subst (R (get_or xs i d)) second (subst (λ (a : X). R a (get_or (xs ++ x ∷ []) j d)) first
      here)

  AllPairs-last : All (λ a. R a x) xs
  AllPairs-last k d l =
      let first : get_or (xs ++ x ∷ []) k d ≡ get_or xs k d =
      get_or_append_left xs (x ∷ []) d k l in
      let second : get_or (xs ++ x ∷ []) (length xs) d ≡ x = get_or-append_seam xs x [] d in
      let here : R (get_or (xs ++ x ∷ []) k d) (get_or (xs ++ x ∷ []) (length xs) d) =
      h k (length xs) d l (omega (arith, length-append xs (x ∷ []))) in
      subst (R (get_or xs k d)) second
      (subst (λ (a : X). R a (get_or (xs ++ x ∷ []) (length xs) d)) first here)

-- the runs before the last one, and that one
module _ (runs front : List Run) (last : Run) (parts : runs ≡ front ++ last ∷ [])
    (are : AreRuns runs) where
  are_parts : AreRuns (front ++ last ∷ [])
  are_parts = subst AreRuns parts are

  front_filled : AreFilled front × IsFilledRun last
  front_filled = All-pop IsFilledRun runs front (Some last) parts are.filled

  pub AreRuns-front : AreRuns front
  AreRuns-front = record {
    filled = front_filled.0;
    apart = AllPairs-front (λ a b. Below (end_of a) (start_of b)) front last are_parts.apart;
  }

  front_apart : All (λ r. Below (end_of r) (start_of last)) front
  front_apart = AllPairs-last (λ a b. Below (end_of a) (start_of b)) front last are_parts.apart

  -- the last one is lengthened
  pub AreRuns-lengthened : (joined : Run) → start_of joined ≡ start_of last → IsFilledRun joined
      → AreRuns (front ++ joined ∷ [])
  AreRuns-lengthened joined same filled =
      AreRuns-push front joined AreRuns-front filled
      (λ k d l. subst (Below (end_of (get_or front k d))) (sym same) (front_apart k d l))

  -- a run after the last one
  pub AreRuns-after : (run : Run) → Below (end_of last) (start_of run) → IsFilledRun run
      → AreRuns ((front ++ last ∷ []) ++ run ∷ [])
  AreRuns-after run apart filled =
      AreRuns-push (front ++ last ∷ []) run are_parts filled
      (All-push (λ r. Below (end_of r) (start_of run)) front last
      (λ k d l. is_lt-trans id_cmp-IsTotalOrder (end_of (get_or front k d)) (start_of last)
      (start_of run)
      (front_apart k d l)
      (upto_below (start_of last) (end_of last) (start_of run)
      (first_upto_last last front_filled.1) apart)) apart)

-- the Ids in runs of which one is appended
pub IsInRuns-push : (runs : List Run) (run : Run) (x : Id)
    → IsInRuns (runs ++ run ∷ []) x ↔ (IsInRuns runs x ⊎ IsInRun run x)
IsInRuns-push runs run x = (there, back) where
  there : IsInRuns (runs ++ run ∷ []) x → IsInRuns runs x ⊎ IsInRun run x
  there h = elim (Contains-append_cases runs (run ∷ []) h.0 h.1) [
    | inl early ↦ inl (h.0, early, h.2)
    | inr late ↦ elim (Contains-cons_cases run [] h.0 late) [
      | inl same ↦ inr (subst (λ (r : Run). IsInRun r x) (sym same) h.2)
      | inr none ↦ absurd (Contains-nil h.0 none)
    ]
  ]

  back : IsInRuns runs x ⊎ IsInRun run x → IsInRuns (runs ++ run ∷ []) x
  back (inl h) = (h.0, Contains-append_left runs (run ∷ []) h.0 h.1, h.2)
  back (inr h) = (run, Contains-append_right runs (run ∷ []) run (Contains-head run []), h)

-- the last run is lengthened by another one
pub IsInRuns-lengthened : (runs front : List Run) (last run joined : Run)
    → runs ≡ front ++ last ∷ [] → ((x : Id) → IsInRun joined x ↔ (IsInRun last x ⊎ IsInRun run x))
    → (x : Id) → IsInRuns (front ++ joined ∷ []) x ↔ (IsInRuns runs x ⊎ IsInRun run x)
IsInRuns-lengthened runs front last run joined parts same x = (there, back) where
  there : IsInRuns (front ++ joined ∷ []) x → IsInRuns runs x ⊎ IsInRun run x
  there h = elim ((IsInRuns-push front joined x).0 h) [
    | inl early ↦ inl (rw parts ((IsInRuns-push front last x).1 (inl early)))
    | inr late ↦ elim ((same x).0 late) [
      | inl old ↦ inl (rw parts ((IsInRuns-push front last x).1 (inr old)))
      | inr new ↦ inr new
    ]
  ]

  back : IsInRuns runs x ⊎ IsInRun run x → IsInRuns (front ++ joined ∷ []) x
  back (inr new) = (IsInRuns-push front joined x).1 (inr ((same x).1 (inr new)))
  back (inl old) = elim ((IsInRuns-push front last x).0 (rw parts at old)) [
    | inl early ↦ (IsInRuns-push front joined x).1 (inl early)
    | inr late ↦ (IsInRuns-push front joined x).1 (inr ((same x).1 (inl late)))
  ]

-- ---- runs by where they begin

-- sorted runs begin in order
module _ (cmp : Run → Run → Ordering) (runs : List Run)
    (by_first : (a b : Run) → is_lt (cmp b a) ≡ false → UpTo (start_of a) (start_of b))
    (sorted : IsSorted cmp runs) where
  begin_next : (k : ℕ) (d : Run) → k + 1 < length runs
      → UpTo (start_of (get_or runs k d)) (start_of (get_or runs (k + 1) d))
  begin_next k d l = by_first (get_or runs k d) (get_or runs (k + 1) d)
      (sorted k d (omega arith) l)

  begin_later : (n k : ℕ) (d : Run) → k + (n + 1) < length runs
      → UpTo (start_of (get_or runs k d)) (start_of (get_or runs (k + (n + 1)) d))
  begin_later zero k d l = begin_next k d l
  begin_later (suc n) k d l =
      let e : k + 1 + (n + 1) ≡ k + (suc n + 1) = omega arith in
      upto_trans (start_of (get_or runs k d)) (start_of (get_or runs (k + 1) d))
      (start_of (get_or runs (k + (suc n + 1)) d))
      (begin_next k d (omega arith))
      (subst (λ (m : ℕ). UpTo (start_of (get_or runs (k + 1) d)) (start_of (get_or runs m d))) e
      (begin_later n (k + 1) d (omega arith)))

  pub BeginInOrder-from_sorted : BeginInOrder runs
  BeginInOrder-from_sorted i j d l k =
      let e : i + (j - i - 1 + 1) ≡ j = omega arith in
      subst (λ (m : ℕ). UpTo (start_of (get_or runs i d)) (start_of (get_or runs m d))) e
      (begin_later (j - i - 1) i d (omega arith))

-- the first n of some runs, with their numbers in runs that lie apart
pub record AreJoined (sorted : List Run) (n : ℕ) (runs : List Run) : Type 0 where
  pub apart : AreRuns runs
  pub after : (k : ℕ) (d : Run) → n ≤ k → k < length sorted
      → All (λ r. UpTo (start_of r) (start_of (get_or sorted k d))) runs
  pub members : (x : Id) → IsInRuns runs x ↔ IsInRuns (take n sorted) x

pub AreJoined-more : (sorted : List Run) (n : ℕ) (d : Run) (runs more : List Run)
    → BeginInOrder sorted → n < length sorted → AreJoined sorted n runs → AreRuns more
    → All (λ r. UpTo (start_of r) (start_of (get_or sorted n d))) more
    → ((x : Id) → IsInRuns more x ↔ (IsInRuns runs x ⊎ IsInRun (get_or sorted n d) x))
    → AreJoined sorted (n + 1) more
AreJoined-more sorted n d runs more order l joined are after members = record {
  apart = are;
  after = λ k e low m. λ j f p.
      let here : UpTo (start_of (get_or more j f)) (start_of (get_or sorted n e)) =
      subst (λ (r : Run). UpTo (start_of (get_or more j f)) (start_of r))
      (get_or_default sorted n d e l) (after j f p) in
      upto_trans (start_of (get_or more j f)) (start_of (get_or sorted n e))
      (start_of (get_or sorted k e)) here (order n k e (omega arith) m);
  members = λ x. subst (λ (xs : List Run). IsInRuns more x ↔ IsInRuns xs x)
      (sym (take_more sorted n d l)) (
        λ h. (IsInRuns-push (take n sorted) (get_or sorted n d) x).1 (elim ((members x).0 h) [
          | inl old ↦ inl ((joined.members x).0 old)
          | inr new ↦ inr new
        ]),
        λ h. (members x).1 (elim ((IsInRuns-push (take n sorted) (get_or sorted n d) x).0 h) [
          | inl old ↦ inl ((joined.members x).1 old)
          | inr new ↦ inr new
        ]),
      );
}

-- the run of one more Id
pub IsInRuns-of_more : (ids : List Id) (n : ℕ) (d : Id) (runs : List Run) (run : Run)
    → n < length ids → ((x : Id) → IsInRuns runs x ↔ Contains (take n ids) x)
    → ((x : Id) → IsInRun run x ↔ (x ≡ get_or ids n d)) → (x : Id)
    → IsInRuns (runs ++ run ∷ []) x ↔ Contains (take (n + 1) ids) x
IsInRuns-of_more ids n d runs run l same alone x =
    subst (λ (xs : List Id). IsInRuns (runs ++ run ∷ []) x ↔ Contains xs x)
    (sym (take_more ids n d l)) (
      λ h. elim ((IsInRuns-push runs run x).0 h) [
        | inl old ↦ Contains-append_left (take n ids) (get_or ids n d ∷ []) x ((same x).0 old)
        | inr new ↦ Contains-append_right (take n ids) (get_or ids n d ∷ []) x
            (subst (Contains (get_or ids n d ∷ [])) (sym ((alone x).0 new))
            (Contains-head (get_or ids n d) []))
      ],
      λ h. (IsInRuns-push runs run x).1 (elim (Contains-append_cases (take n ids)
          (get_or ids n d ∷ []) x h) [
            | inl old ↦ inl ((same x).1 old)
            | inr new ↦ inr ((alone x).1 (elim (Contains-cons_cases (get_or ids n d) [] x new) [
              | inl e ↦ sym e
              | inr none ↦ absurd (Contains-nil x none)
            ]))
          ]),
    )

All-permuted : {X : Type 0} (P : X → Type 0) (xs ys : List X) → IsPermutation xs ys → All P xs
    → All P ys
All-permuted P xs ys moved h k d l =
    All-contains P xs (get_or ys k d) h
    (Contains-permutation ys xs (get_or ys k d) (IsPermutation-sym xs ys moved)
    (k, l, get_or_default ys k (get_or ys k d) d l))

-- runs that are sorted after others were appended
module _ (singles runs sorted : List Run) (moved : IsPermutation (singles ++ runs) sorted) where
  pub AreFilled-sorted : AreFilled singles → AreFilled runs → AreFilled sorted
  AreFilled-sorted h k = All-permuted IsFilledRun (singles ++ runs) sorted moved
      (All-append IsFilledRun singles runs h k)

  pub IsInRuns-sorted : (ids : List Id) (x : Id) → (IsInRuns singles x ↔ Contains ids x)
      → IsInRuns sorted x ↔ (IsInRuns runs x ⊎ Contains ids x)
  IsInRuns-sorted ids x same = (there, back) where
    there : IsInRuns sorted x → IsInRuns runs x ⊎ Contains ids x
    there h = elim (Contains-append_cases singles runs h.0
        (Contains-permutation sorted (singles ++ runs) h.0
        (IsPermutation-sym (singles ++ runs) sorted moved) h.1)) [
          | inl single ↦ inr (same.0 (h.0, single, h.2))
          | inr old ↦ inl (h.0, old, h.2)
        ]

    back : IsInRuns runs x ⊎ Contains ids x → IsInRuns sorted x
    back (inl h) = (
      h.0,
      Contains-permutation (singles ++ runs) sorted h.0 moved
          (Contains-append_right singles runs h.0 h.1),
      h.2,
    )
    back (inr h) = let r = same.1 h in (
      r.0,
      Contains-permutation (singles ++ runs) sorted r.0 moved
          (Contains-append_left singles runs r.0 r.1),
      r.2,
    )

-- ---- binary search

module _ (runs : List Run) (are : AreRuns runs) (middle : ℕ) (e : Run)
    (within : middle < length runs) (x : Id) (k : ℕ) (d : Run) (l : k < length runs)
    (there : IsInRun (get_or runs k d) x) where
  -- all runs from the middle on are after the Id
  pub Below-run_before : Below x (start_of (get_or runs middle e)) → k < middle
  Below-run_before lower = elim (cases_lt k middle) [
    | inl before ↦ before
    | inr from ↦ absurd (Below-not_start_of (get_or runs k d) x there (elim (cases_eq middle k) [
      | inl same ↦ subst (λ (r : Run). Below x (start_of r))
          (get_or_default runs middle e d within ∙ ap (λ (n : ℕ). get_or runs n d) same) lower
      | inr other ↦
          let mine : Below x (start_of (get_or runs middle d)) =
          subst (λ (r : Run). Below x (start_of r)) (get_or_default runs middle e d within)
          lower in
          is_lt-trans id_cmp-IsTotalOrder x (end_of (get_or runs middle d))
          (start_of (get_or runs k d))
          (below_upto x (start_of (get_or runs middle d)) (end_of (get_or runs middle d)) mine
          (first_upto_last (get_or runs middle d) (are.filled middle d within)))
          (are.apart middle k d (omega arith) l)
    ]))
  ]

  -- all runs up to the middle are before the Id
  pub Below-run_after : Below (end_of (get_or runs middle e)) x → middle < k
  Below-run_after upper = elim (cases_lt middle k) [
    | inl after ↦ after
    | inr upto ↦ absurd (Below-not_end_of (get_or runs k d) x there (elim (cases_eq middle k) [
      | inl same ↦ subst (λ (r : Run). Below (end_of r) x)
          (get_or_default runs middle e d within ∙ ap (λ (n : ℕ). get_or runs n d) same) upper
      | inr other ↦
          let mine : Below (end_of (get_or runs middle d)) x =
          subst (λ (r : Run). Below (end_of r) x) (get_or_default runs middle e d within)
          upper in
          is_lt-trans id_cmp-IsTotalOrder (end_of (get_or runs k d))
          (start_of (get_or runs middle d)) x
          (are.apart k middle d (omega arith) within)
          (upto_below (start_of (get_or runs middle d)) (end_of (get_or runs middle d)) x
          (first_upto_last (get_or runs middle d) (are.filled middle d within)) mine)
    ]))
  ]
