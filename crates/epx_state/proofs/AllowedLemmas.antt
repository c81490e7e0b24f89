-- The first lines of a state are allowed one after another.
use Rattle.std.proofs.Common.{◌≡◌, inl, inr, ℕ, ◌+◌, ◌<◌, ◌≤◌, nat_lt, true, false, T, ℤ, List, []}
use Rattle.std.proofs.Common.{◌∷◌, ◌++◌, length, map, Contains, AllPairs, Some, refl, sym, ap, ◌∙◌}
use Rattle.std.proofs.Common.{subst, arith, append-nil, append_assoc}
use Rattle.epx_types.proofs.Common.{Contains-cons, Contains-head, Instance, IsRising, cases_lt}
use Rattle.epx_types.proofs.Common.{ids_of, is_sorted, key_cmp, length_push, nat_tests}
use Rattle.epx_types.proofs.Common.{is_among-false}
use Rattle.epx_report.proofs.RisingListLemmas.{is_after_last-sorted}
use Rattle.epx_executor.specs.Runs.{ids_in}
use Rattle.epx_executor.specs.declared.done_runs.Run.{Run}
use Rattle.epx_executor.proofs.RunLemmas.{IsInRuns-from_ids_in}
use Rattle.epx_state.specs.declared.forms.StateCounts.{StateCounts}
use Rattle.epx_state.specs.StateForms.{StateParts, counts_of_line, entry_of_line, pair_of_line}
use Rattle.epx_state.specs.StateForms.{run_of_line}
use Rattle.epx_state.specs.States.{AreInOrder, FitCounts, SayState}
use Rattle.epx_state.specs.inner.StateProgress.{StateProgress, past_lines, past_line, before_lines}
use Rattle.epx_state.proofs.PartOrderLemmas.{Ends, is_after_last-entry, is_after_last-run}

abbrev pub state : StateCounts → List Run → List Instance → List (List ℕ × ℤ) → StateProgress
state c rs ws qs = record { counts = Some c; runs = rs; waiting = ws; stored = qs }

leads_on : (s t end : StateProgress) (l : List ℕ) (ls : List (List ℕ)) → past_line s l ≡ Some t
    → past_lines t ls ≡ Some end → past_lines s (l ∷ ls) ≡ Some end
leads_on s t end l ls goes more = rw goes more

is_lower : (m n : ℕ) → m < n → nat_lt m n ≡ true
is_lower m n l = grind (arith, nat_tests)

is_not_lower : (m n : ℕ) → n ≤ m → nat_lt m n ≡ false
is_not_lower m n l = grind (arith, nat_tests)

-- a part that something follows is whole
is_whole : {X : Type 0} (x : X) (xs : List X) (m n : ℕ) → (m < n → x ∷ xs ≡ []) → n ≤ m
is_whole x xs m n none =
    elim (cases_lt m n) [ inl few ↦ absurd (cc (none few)) | inr whole ↦ whole ]

no_rest : {X : Type 0} (x : X) (xs : List X) (m n : ℕ) → (m < n → x ∷ xs ≡ []) → m < n → xs ≡ []
no_rest x xs m n none few = absurd (cc (none few))

module _ (c : StateCounts) where
  -- ---- runs

  after-run : (rs : List Run) (r : Run) (next : List Run) (l : List ℕ) → run_of_line l ≡ Some r
      → length rs < c.runs → AllPairs Ends (rs ++ r ∷ next)
      → past_line (state c rs [] []) l ≡ Some (state c (rs ++ r ∷ []) [] [])
  unfolding past_line
  after-run rs r next l is few apart =
      rw (is_lower (length rs) c.runs few, is, is_after_last-run rs r next apart) refl

  runs_lead : (rs next : List Run) (lines more : List (List ℕ)) (end : StateProgress)
      → map run_of_line lines ≡ map Some next → length rs + length next ≤ c.runs
      → AllPairs Ends (rs ++ next) → past_lines (state c (rs ++ next) [] []) more ≡ Some end
      → past_lines (state c rs [] []) (lines ++ more) ≡ Some end
  runs_lead rs [] [] more end said few apart goes =
      subst (λ (xs : List Run). past_lines (state c xs [] []) more ≡ Some end) (append-nil rs) goes
  runs_lead rs [] (l ∷ lines) more end said few apart goes = absurd (cc said)
  runs_lead rs (r ∷ next) [] more end said few apart goes = absurd (cc said)
  runs_lead rs (r ∷ next) (l ∷ lines) more end said few apart goes =
      let regrouped = append_assoc rs (r ∷ []) next in
      leads_on (state c rs [] []) (state c (rs ++ r ∷ []) [] []) end l (lines ++ more)
      (after-run rs r next l (cc said) (omega (arith, few)) apart)
      (runs_lead (rs ++ r ∷ []) next lines more end (cc said)
      (omega (arith, length_push rs r, few)) (subst (AllPairs Ends) (sym regrouped) apart)
      (subst (λ (xs : List Run). past_lines (state c xs [] []) more ≡ Some end) (sym regrouped)
      goes))

  -- ---- instances

  after-entry : (rs : List Run) (ws : List Instance) (e : Instance) (next : List Instance)
      (l : List ℕ) → entry_of_line l ≡ Some e → c.runs ≤ length rs → length ws < c.waiting
      → IsRising (ids_of (ws ++ e ∷ next)) → ¬ Contains (ids_in rs) e.id
      → past_line (state c rs ws []) l ≡ Some (state c rs (ws ++ e ∷ []) [])
  unfolding past_line
  after-entry rs ws e next l is whole few rising left =
      rw (
        is_not_lower (length rs) c.runs whole,
        is_lower (length ws) c.waiting few,
        is,
        is_after_last-entry ws e next rising,
        is_among-false (ids_in rs) e.id left,
      ) refl

  entries_lead : (rs : List Run) (ws next : List Instance) (lines more : List (List ℕ))
      (end : StateProgress) → map entry_of_line lines ≡ map Some next
      → (length rs < c.runs → next ≡ []) → length ws + length next ≤ c.waiting
      → IsRising (ids_of (ws ++ next))
      → ((e : Instance) → Contains next e → ¬ Contains (ids_in rs) e.id)
      → past_lines (state c rs (ws ++ next) []) more ≡ Some end
      → past_lines (state c rs ws []) (lines ++ more) ≡ Some end
  entries_lead rs ws [] [] more end said whole few rising left goes =
      subst (λ (xs : List Instance). past_lines (state c rs xs []) more ≡ Some end) (append-nil ws)
      goes
  entries_lead rs ws [] (l ∷ lines) more end said whole few rising left goes = absurd (cc said)
  entries_lead rs ws (e ∷ next) [] more end said whole few rising left goes = absurd (cc said)
  entries_lead rs ws (e ∷ next) (l ∷ lines) more end said whole few rising left goes =
      let regrouped = append_assoc ws (e ∷ []) next in
      leads_on (state c rs ws []) (state c rs (ws ++ e ∷ []) []) end l (lines ++ more)
      (after-entry rs ws e next l (cc said) (is_whole e next (length rs) c.runs whole)
      (omega (arith, few)) rising (left e (Contains-head e next)))
      (entries_lead rs (ws ++ e ∷ []) next lines more end (cc said)
      (no_rest e next (length rs) c.runs whole) (omega (arith, length_push ws e, few))
      (subst (λ (xs : List Instance). IsRising (ids_of xs)) (sym regrouped) rising)
      (λ d h. left d (Contains-cons e next d h))
      (subst (λ (xs : List Instance). past_lines (state c rs xs []) more ≡ Some end)
      (sym regrouped) goes))

  -- ---- pairs

  after-pair : (rs : List Run) (ws : List Instance) (qs : List (List ℕ × ℤ)) (q : List ℕ × ℤ)
      (next : List (List ℕ × ℤ)) (l : List ℕ) → pair_of_line l ≡ Some q → c.runs ≤ length rs
      → c.waiting ≤ length ws → length qs < c.stored → T (is_sorted key_cmp (qs ++ q ∷ next))
      → past_line (state c rs ws qs) l ≡ Some (state c rs ws (qs ++ q ∷ []))
  unfolding past_line
  after-pair rs ws qs q next l is whole all few rises =
      rw (
        is_not_lower (length rs) c.runs whole,
        is_not_lower (length ws) c.waiting all,
        is_lower (length qs) c.stored few,
        is,
        is_after_last-sorted qs q next rises,
      ) refl

  pairs_lead : (rs : List Run) (ws : List Instance) (qs next : List (List ℕ × ℤ))
      (lines : List (List ℕ)) → map pair_of_line lines ≡ map Some next
      → (length rs < c.runs → next ≡ []) → (length ws < c.waiting → next ≡ [])
      → length qs + length next ≤ c.stored → T (is_sorted key_cmp (qs ++ next))
      → past_lines (state c rs ws qs) lines ≡ Some (state c rs ws (qs ++ next))
  pairs_lead rs ws qs [] [] said whole all few rises =
      ap (λ (xs : List (List ℕ × ℤ)). Some (state c rs ws xs)) (sym (append-nil qs))
  pairs_lead rs ws qs [] (l ∷ lines) said whole all few rises = absurd (cc said)
  pairs_lead rs ws qs (q ∷ next) [] said whole all few rises = absurd (cc said)
  pairs_lead rs ws qs (q ∷ next) (l ∷ lines) said whole all few rises =
      let regrouped = append_assoc qs (q ∷ []) next in
      leads_on (state c rs ws qs) (state c rs ws (qs ++ q ∷ [])) (state c rs ws (qs ++ q ∷ next)) l
      lines
      (after-pair rs ws qs q next l (cc said) (is_whole q next (length rs) c.runs whole)
      (is_whole q next (length ws) c.waiting all) (omega (arith, few)) rises)
      (subst (λ (xs : List (List ℕ × ℤ)). past_lines (state c rs ws (qs ++ q ∷ [])) lines
      ≡ Some (state c rs ws xs)) regrouped
      (pairs_lead rs ws (qs ++ q ∷ []) next lines (cc said)
      (no_rest q next (length rs) c.runs whole) (no_rest q next (length ws) c.waiting all)
      (omega (arith, length_push qs q, few))
      (subst (λ (xs : List (List ℕ × ℤ)). T (is_sorted key_cmp xs)) (sym regrouped) rises)))

  -- ---- the first line

  after-first : (l : List ℕ) → counts_of_line l ≡ Some c
      → past_line before_lines l ≡ Some (state c [] [] [])
  unfolding past_line
  after-first l is = rw is refl

  pub past_lines-said : (ls : List (List ℕ)) (p : StateParts) → SayState ls c p → AreInOrder p
      → FitCounts c p → past_lines before_lines ls ≡ Some (state c p.runs p.waiting p.stored)
  past_lines-said ls p said ordered within =
      let end = state c p.runs p.waiting p.stored in
      let pairs = pairs_lead p.runs p.waiting [] p.stored said.stored said.stored_said
      (λ k. (within.runs_first k).1) within.waiting_next
      (omega (arith, within.stored))
      (subst T (sym ordered.stored) tt) in
      let entries = entries_lead p.runs [] p.waiting said.waiting said.stored end
      said.waiting_said (λ k. (within.runs_first k).0) (omega (arith, within.waiting))
      ordered.waiting
      (λ e h there. ordered.left e h (IsInRuns-from_ids_in p.runs e.id there)) pairs in
      let runs = runs_lead [] p.runs said.runs (said.waiting ++ said.stored) end said.runs_said
      (omega (arith, within.runs)) ordered.runs.apart entries in
      ap (past_lines before_lines) said.cut
      ∙ leads_on before_lines (state c [] [] []) end said.first
      (said.runs ++ (said.waiting ++ said.stored)) (after-first said.first said.counts_said) runs
