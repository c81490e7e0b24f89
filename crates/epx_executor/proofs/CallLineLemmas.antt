-- The lines of a call, and the map that they commit.
use Rattle.std.proofs.Common.{◌≡◌, ◌<◌, ◌≤◌, ◌+◌, ◌↔◌, ◌⊎◌, Bool, true, not, ℕ, suc, List, [], ◌∷◌}
use Rattle.std.proofs.Common.{◌++◌, length, filter, get_or, take, Contains, ap, ◌∙◌, sym, subst}
use Rattle.std.proofs.Common.{inl, inr, arith, length-take}
use Rattle.epx_types.proofs.Common.{cases_Bool, nat_tests, length-map, take_more}
use Rattle.epx_types.proofs.Common.{Contains-append_cases, Contains-append_left}
use Rattle.epx_types.proofs.Common.{Contains-append_right, ids_of, is_among, Instance}
use Rattle.epx_types.proofs.Common.{max_instances, Placed, Earlier, Contains-nil, Contains-head}
use Rattle.epx_types.proofs.Common.{Contains-cons, Contains-cons_cases, Contains-from_map}
use Rattle.epx_types.proofs.Common.{Contains-filter, Contains-from_filter, passes-from_filter}
use Rattle.epx_types.proofs.Common.{is_among-false}
use Rattle.epx_types.specs.declared.id.Id.{Id}
use Rattle.epx_types.specs.declared.place.Place.{Place}
use Rattle.epx_committed.specs.between.LineOrder.{IsSortedByPlace}
use Rattle.epx_committed.specs.MergedLines.{IsMerged}
use Rattle.epx_committed.proofs.InstanceCountLemmas.{ids_of-named}
use Rattle.epx_committed.proofs.LineOrderLemmas.{Earlier-same_log, AreSortedBy-append}
use Rattle.epx_executor.specs.CallLines.{call_lines, lines_from, lines_not_done}
use Rattle.epx_executor.proofs.RemainderLemmas.{is_among-true}

-- ---- instances on consecutive lines

module _ (log : ℕ) where
  abbrev pub line_at : ℕ → Instance → Placed
  line_at n e = record { place = record { log = log; line = n }; instance = e }

  record IsLineFrom (n : ℕ) (es : List Instance) (p : Placed) : Type 0 where
    in_log : p.place.log ≡ log
    late : n ≤ p.place.line
    of : Contains es p.instance

  from_line : (n : ℕ) (es : List Instance) (p : Placed) → Contains (lines_from log n es) p
      → IsLineFrom n es p
  from_line n [] p h = absurd (Contains-nil p h)
  from_line n (e ∷ es) p h =
      elim (Contains-cons_cases (record { place = record { log = log; line = n }; instance = e })
      (lines_from log (suc n) es) p h) [
        | inl same ↦ record {
          in_log = ap (λ (l : Placed). l.place.log) (sym same);
          late = omega (arith, ap (λ (l : Placed). l.place.line) same);
          of = subst (Contains (e ∷ es)) (ap (λ (l : Placed). l.instance) same)
              (Contains-head e es);
        }
        | inr rest ↦ let r = from_line (suc n) es p rest in record {
          in_log = r.in_log;
          late = omega (arith, r.late);
          of = Contains-cons e es p.instance r.of;
        }
      ]

  line_of : (n : ℕ) (es : List Instance) (e : Instance) → Contains es e
      → (p : Placed) × Contains (lines_from log n es) p × (p.instance ≡ e)
  line_of n [] e h = absurd (Contains-nil e h)
  line_of n (d ∷ es) e h =
      let first : Placed = record { place = record { log = log; line = n }; instance = d } in
      elim (Contains-cons_cases d es e h) [
        | inl same ↦ (first, Contains-head first (lines_from log (suc n) es), same)
        | inr rest ↦ let p = line_of (suc n) es e rest in
            (p.0, Contains-cons first (lines_from log (suc n) es) p.0 p.1, p.2)
      ]

  lines_in_order : (n : ℕ) (es : List Instance) → IsSortedByPlace (lines_from log n es)
  lines_in_order n [] = tt
  lines_in_order n (e ∷ es) = (
    (λ p h. let later = from_line (suc n) es p h in
        Earlier-same_log (record { log = log; line = n }) p.place (sym later.in_log)
        (omega (arith, later.late))),
    lines_in_order (suc n) es,
  )

-- lists of instances one after another
pub lines_from-append : (log n : ℕ) (xs ys : List Instance)
    → lines_from log n (xs ++ ys) ≡ lines_from log n xs ++ lines_from log (length xs + n) ys
lines_from-append log n [] ys = ap (λ k. lines_from log k ys) (omega arith)
lines_from-append log n (x ∷ xs) ys =
    ap (λ (ls : List Placed). line_at log n x ∷ ls) (lines_from-append log (suc n) xs ys
    ∙ ap (λ k. lines_from log (suc n) xs ++ lines_from log k ys) (omega arith))

-- the line of one more instance
pub lines_from-more : (log n : ℕ) (es : List Instance) (k : ℕ) (d : Instance) → k < length es
    → lines_from log n (take (k + 1) es)
    ≡ lines_from log n (take k es) ++ line_at log (k + n) (get_or es k d) ∷ []
lines_from-more log n es k d l =
    ap (lines_from log n) (take_more es k d l)
    ∙ lines_from-append log n (take k es) (get_or es k d ∷ [])
    ∙ ap (λ j. lines_from log n (take k es) ++ lines_from log (j + n) (get_or es k d ∷ []))
    (omega (arith, length-take k es))

-- some of sorted lines are sorted
filter_in_order : (p : Placed → Bool) (lines : List Placed) → IsSortedByPlace lines
    → IsSortedByPlace (filter p lines)
filter_in_order p [] order = tt
filter_in_order p (l ∷ lines) order =
    elim (cases_Bool (p l)) [
      | inr fails ↦ rw fails (filter_in_order p lines order.1)
      | inl passes ↦ rw passes (
        (λ q h. order.0 q (Contains-from_filter p lines q h)),
        filter_in_order p lines order.1,
      )
    ]

pub Earlier-log : (p q : Place) → p.log ≡ 0 → q.log ≡ 1 → Earlier p q
Earlier-log p q e h = grind (arith, nat_tests)

-- ---- the lines of a call

module _ (done : List Id) (pending came : List Instance) where
  abbrev left : Placed → Bool
  left p = not (is_among done p.instance.id)

  pub IsSortedByPlace-call : IsSortedByPlace (call_lines done pending came)
  IsSortedByPlace-call =
      AreSortedBy-append (λ (p : Placed). p.place) (lines_from 0 1 pending)
      (lines_not_done done (lines_from 1 1 came)) (lines_in_order 0 1 pending)
      (filter_in_order left (lines_from 1 1 came) (lines_in_order 1 1 came))
      (λ p q h k. Earlier-log p.place q.place (from_line 0 1 pending p h).in_log
      (from_line 1 1 came q (Contains-from_filter left (lines_from 1 1 came) q k)).in_log)

  -- an instance that came and is not done
  abbrev IsNew : Instance → Type 0
  IsNew e = Contains came e × (¬ Contains done e.id)

  pub Contains-from_call : (p : Placed) → Contains (call_lines done pending came) p
      → Contains pending p.instance ⊎ IsNew p.instance
  Contains-from_call p h =
      elim (Contains-append_cases (lines_from 0 1 pending)
      (lines_not_done done (lines_from 1 1 came)) p h) [
        | inl old ↦ inl (from_line 0 1 pending p old).of
        | inr new ↦ inr (
          (from_line 1 1 came p (Contains-from_filter left (lines_from 1 1 came) p new)).of,
          λ among. absurd (cc (
            passes-from_filter left (lines_from 1 1 came) p new,
            ap not (is_among-true done p.instance.id among),
          )),
        )
      ]

  pub Contains-to_call : (e : Instance) → Contains pending e ⊎ IsNew e
      → (p : Placed) × Contains (call_lines done pending came) p × (p.instance ≡ e)
  Contains-to_call e (inl old) =
      let p = line_of 0 1 pending e old in (
        p.0,
        Contains-append_left (lines_from 0 1 pending)
            (lines_not_done done (lines_from 1 1 came)) p.0 p.1,
        p.2,
      )
  Contains-to_call e (inr new) =
      let p = line_of 1 1 came e new.0 in
      let passes : left p.0 ≡ true = ap not (is_among-false done p.0.instance.id
      (subst (λ (i : Instance). ¬ Contains done i.id) (sym p.2) new.1)) in (
        p.0,
        Contains-append_right (lines_from 0 1 pending)
            (lines_not_done done (lines_from 1 1 came)) p.0
            (Contains-filter left (lines_from 1 1 came) p.0 p.1 passes),
        p.2,
      )

  module _ (m : List Instance) (merged : IsMerged (call_lines done pending came) m) where
    -- the map has the pending instances, and those that came and are not done
    pub Contains-merged : (e : Instance) → Contains m e ↔ (Contains pending e ⊎ IsNew e)
    Contains-merged e = (
      λ h. let p = merged.committed.given e h in
          subst (λ (i : Instance). Contains pending i ⊎ IsNew i) p.2 (Contains-from_call p.0 p.1),
      λ h. let p = Contains-to_call e h in subst (Contains m) p.2 (merged.committed.whole p.0 p.1),
    )

    pub Contains-merged_left : ((e : Instance) → Contains pending e → ¬ Contains done e.id)
        → (x : Id) → Contains (ids_of m) x → ¬ Contains done x
    Contains-merged_left none x h =
        let e = Contains-from_map (λ (i : Instance). i.id) m x h in
        subst (λ (y : Id). ¬ Contains done y) e.2 (elim ((Contains-merged e.0).0 e.1) [
          | inl old ↦ none e.0 old
          | inr new ↦ new.1
        ])

-- ---- how many they are

pub length-merged : (lines : List Placed) (m : List Instance) → IsMerged lines m
    → length m ≤ max_instances
length-merged lines m merged =
    let small = merged.small in
    let same = ids_of-named lines m small.0 merged.committed small.1 in
    omega (arith, small.2, ap length same, length-map m (λ (e : Instance). e.id))
