-- Lines that are allowed one after another are the first lines of a state.
use Rattle.std.proofs.Common.{◌≡◌, ◌⊎◌, inl, inr, ℕ, ◌<◌, ◌≤◌, nat_lt, not, Bool, true, false, T, ℤ}
use Rattle.std.proofs.Common.{List, [], ◌∷◌, ◌++◌, length, Contains, Option, Some, None, refl, sym}
use Rattle.std.proofs.Common.{ap, ◌∙◌, subst, arith, append-nil, append_assoc}
use Rattle.epx_types.proofs.Common.{nat_tests, length_push, Contains-nil, Contains-push_cases}
use Rattle.epx_types.proofs.Common.{Instance, is_among, is_among-cases}
use Rattle.epx_types.specs.declared.id.Id.{Id}
use Rattle.epx_report.proofs.BegunBaseLemmas.{Some-from_if, and-both, is_sorted-push}
use Rattle.epx_report.proofs.RisingListLemmas.{T-true}
use Rattle.epx_executor.specs.Runs.{IsInRuns, ids_in}
use Rattle.epx_executor.specs.declared.done_runs.Run.{Run}
use Rattle.epx_executor.proofs.RunLemmas.{Contains-ids_in}
use Rattle.epx_state.specs.declared.forms.StateCounts.{StateCounts}
use Rattle.epx_state.specs.StateForms.{counts_of_line, entry_of_line, pair_of_line, run_of_line}
use Rattle.epx_state.specs.States.{AreInOrder, FitCounts, BeginState, SayState}
use Rattle.epx_state.specs.inner.StateProgress.{StateProgress, past_lines, after_entry, past_line}
use Rattle.epx_state.specs.inner.StateProgress.{after_pair, after_part, after_run, before_lines}
use Rattle.epx_state.specs.inner.StateProgress.{past_with, parts_of}
use Rattle.epx_state.proofs.FormLemmas.{option_and_then-some, option_map-some}
use Rattle.epx_state.proofs.FormLemmas.{IsFilledRun-run_of_line}
use Rattle.epx_state.proofs.PartOrderLemmas.{IsRising-after_last, AreRuns-after_last}
use Rattle.epx_state.proofs.SaidPartLemmas.{SayState-entry, SayState-counts, SayState-pair}
use Rattle.epx_state.proofs.SaidPartLemmas.{SayState-run}

-- the state is that after the lines, of which the first one says the counts
pub record IsAfter (ls : List (List ℕ)) (s : StateProgress) : Type 0 where
  pub counts : StateCounts
  pub counts_are : s.counts ≡ Some counts
  pub said : SayState ls counts (parts_of s)
  pub ordered : AreInOrder (parts_of s)
  pub within : FitCounts counts (parts_of s)

-- ---- tests

pub nat_lt-if_true : (m n : ℕ) → nat_lt m n ≡ true → m < n
nat_lt-if_true m n e = grind (arith, nat_tests)

pub nat_lt-if_false : (m n : ℕ) → nat_lt m n ≡ false → n ≤ m
nat_lt-if_false m n e = grind (arith, nat_tests)

is_new : (done : List Id) (x : Id) → not (is_among done x) ≡ true → ¬ Contains done x
is_new done x e = elim (is_among-cases done x)
    [ inl found ↦ absurd (cc (ap not found.0, e)) | inr missed ↦ missed.1 ]

-- ---- one line more

module _ (ls : List (List ℕ)) (s : StateProgress) (h : IsAfter ls s) (l : List ℕ) where
  abbrev next_run : Run → StateProgress
  next_run r = record s { runs = s.runs ++ r ∷ [] }

  abbrev next_entry : Instance → StateProgress
  next_entry e = record s { waiting = s.waiting ++ e ∷ [] }

  abbrev next_pair : List ℕ × ℤ → StateProgress
  next_pair q = record s { stored = s.stored ++ q ∷ [] }

  on_run : (r : Run) → run_of_line l ≡ Some r → length s.runs < h.counts.runs
      → after_run s r ≡ Some (next_run r) → IsAfter (ls ++ l ∷ []) (next_run r)
  on_run r e few goes =
      let past = (Some-from_if _ (next_run r) (next_run r) goes).0 in
      let none = h.within.runs_first few in
      record {
        counts = h.counts;
        counts_are = h.counts_are;
        said = SayState-run ls h.counts (parts_of s) h.said l r e none.0 none.1;
        ordered = record {
          runs = AreRuns-after_last s.runs r h.ordered.runs (IsFilledRun-run_of_line l r e) past;
          waiting = h.ordered.waiting;
          left = λ i k. absurd (Contains-nil i
              (subst (λ (es : List Instance). Contains es i) none.0 k));
          stored = h.ordered.stored;
        };
        within = record {
          runs = omega (arith, length_push s.runs r, few);
          waiting = h.within.waiting;
          stored = h.within.stored;
          runs_first = λ k. none;
          waiting_next = λ k. none.1;
        };
      }

  on_entry : (e : Instance) → entry_of_line l ≡ Some e → h.counts.runs ≤ length s.runs
      → length s.waiting < h.counts.waiting
      → after_entry s e ≡ Some (next_entry e) → IsAfter (ls ++ l ∷ []) (next_entry e)
  on_entry e is whole few goes =
      let tests = and-both _ _ (Some-from_if _ (next_entry e) (next_entry e) goes).0 in
      let new = is_new (ids_in s.runs) e.id tests.1 in
      let none = h.within.waiting_next few in
      record {
        counts = h.counts;
        counts_are = h.counts_are;
        said = SayState-entry ls h.counts (parts_of s) h.said l e is none;
        ordered = record {
          runs = h.ordered.runs;
          waiting = IsRising-after_last s.waiting e h.ordered.waiting tests.0;
          left = λ i k. elim (Contains-push_cases s.waiting e i k) [
            | inl was ↦ h.ordered.left i was
            | inr same ↦ subst (λ (j : Instance). ¬ IsInRuns s.runs j.id) same
                (λ within. new (Contains-ids_in s.runs e.id within))
          ];
          stored = h.ordered.stored;
        };
        within = record {
          runs = h.within.runs;
          waiting = omega (arith, length_push s.waiting e, few);
          stored = h.within.stored;
          runs_first = λ k. absurd (omega (arith, whole, k));
          waiting_next = λ k. none;
        };
      }

  on_pair : (q : List ℕ × ℤ) → pair_of_line l ≡ Some q → h.counts.runs ≤ length s.runs
      → h.counts.waiting ≤ length s.waiting → length s.stored < h.counts.stored
      → after_pair s q ≡ Some (next_pair q) → IsAfter (ls ++ l ∷ []) (next_pair q)
  on_pair q e whole all few goes =
      let past = (Some-from_if _ (next_pair q) (next_pair q) goes).0 in
      record {
        counts = h.counts;
        counts_are = h.counts_are;
        said = SayState-pair ls h.counts (parts_of s) h.said l q e;
        ordered = record {
          runs = h.ordered.runs;
          waiting = h.ordered.waiting;
          left = h.ordered.left;
          stored = T-true _ (is_sorted-push s.stored q (subst T (sym h.ordered.stored) tt) past);
        };
        within = record {
          runs = h.within.runs;
          waiting = h.within.waiting;
          stored = omega (arith, length_push s.stored q, few);
          runs_first = λ k. absurd (omega (arith, whole, k));
          waiting_next = λ k. absurd (omega (arith, all, k));
        };
      }

  -- the state after an allowed part is the one with this part
  by_run : (r : Run) (t : StateProgress) → run_of_line l ≡ Some r → length s.runs < h.counts.runs
      → after_run s r ≡ Some t → IsAfter (ls ++ l ∷ []) t
  by_run r t e few goes =
      let same = (Some-from_if _ (next_run r) t goes).1 in
      subst (IsAfter (ls ++ l ∷ [])) same
      (on_run r e few (goes ∙ ap Some (sym same)))

  by_entry : (e : Instance) (t : StateProgress) → entry_of_line l ≡ Some e
      → h.counts.runs ≤ length s.runs → length s.waiting < h.counts.waiting
      → after_entry s e ≡ Some t → IsAfter (ls ++ l ∷ []) t
  by_entry e t is whole few goes =
      let same = (Some-from_if _ (next_entry e) t goes).1 in
      subst (IsAfter (ls ++ l ∷ [])) same
      (on_entry e is whole few (goes ∙ ap Some (sym same)))

  by_pair : (q : List ℕ × ℤ) (t : StateProgress) → pair_of_line l ≡ Some q
      → h.counts.runs ≤ length s.runs → h.counts.waiting ≤ length s.waiting
      → length s.stored < h.counts.stored → after_pair s q ≡ Some t → IsAfter (ls ++ l ∷ []) t
  by_pair q t e whole all few goes =
      let same = (Some-from_if _ (next_pair q) t goes).1 in
      subst (IsAfter (ls ++ l ∷ [])) same
      (on_pair q e whole all few (goes ∙ ap Some (sym same)))

  on_part : (t : StateProgress) → after_part h.counts s l ≡ Some t → IsAfter (ls ++ l ∷ []) t
  on_part t goes = by_kind (nat_lt (length s.runs) h.counts.runs)
      (nat_lt (length s.waiting) h.counts.waiting) (nat_lt (length s.stored) h.counts.stored)
      refl refl refl
    where
      by_kind : (a b c : Bool) → nat_lt (length s.runs) h.counts.runs ≡ a
          → nat_lt (length s.waiting) h.counts.waiting ≡ b
          → nat_lt (length s.stored) h.counts.stored ≡ c → IsAfter (ls ++ l ∷ []) t
      by_kind true b c p q r =
          let step = option_and_then-some (after_run s) (run_of_line l) t (rw p at goes) in
          by_run step.0 t step.1 (nat_lt-if_true _ _ p) step.2
      by_kind false true c p q r =
          let step = option_and_then-some (after_entry s) (entry_of_line l) t (rw (p, q) at goes) in
          by_entry step.0 t step.1 (nat_lt-if_false _ _ p) (nat_lt-if_true _ _ q) step.2
      by_kind false false true p q r =
          let step =
          option_and_then-some (after_pair s) (pair_of_line l) t (rw (p, q, r) at goes) in
          by_pair step.0 t step.1 (nat_lt-if_false _ _ p) (nat_lt-if_false _ _ q)
          (nat_lt-if_true _ _ r) step.2
      by_kind false false false p q r =
          let stopped : None ≡ Some t = (rw (p, q, r) at goes) in absurd (cc stopped)

  on_line : (t : StateProgress) → past_line s l ≡ Some t → IsAfter (ls ++ l ∷ []) t
  unfolding past_line
  on_line t goes = on_part t
      (ap (λ (o : Option StateCounts). past_with o s l) (sym h.counts_are) ∙ goes)

-- ---- the first line

on_first : (l : List ℕ) (t : StateProgress) → past_line before_lines l ≡ Some t → IsAfter (l ∷ []) t
unfolding past_line
on_first l t goes =
    let step = option_map-some (λ (c : StateCounts). record before_lines { counts = Some c })
    (counts_of_line l) t goes in
    subst (IsAfter (l ∷ [])) step.2 (record {
      counts = step.0;
      counts_are = refl;
      said = SayState-counts l step.0 step.1;
      ordered = record {
        runs = record {
          filled = λ k d m. absurd (omega arith);
          apart = λ i j d m k. absurd (omega arith);
        };
        waiting = tt;
        left = λ e h. absurd (Contains-nil e h);
        stored = refl;
      };
      within = record {
        runs = omega arith;
        waiting = omega arith;
        stored = omega arith;
        runs_first = λ k. (refl, refl);
        waiting_next = λ k. refl;
      };
    })

-- ---- all lines

-- the state after any lines
abbrev pub IsReached : List (List ℕ) → StateProgress → Type 0
IsReached ls s = ((ls ≡ []) × (s ≡ before_lines)) ⊎ IsAfter ls s

reached_on : (ls : List (List ℕ)) (s : StateProgress) (l : List ℕ) (t : StateProgress)
    → IsReached ls s → past_line s l ≡ Some t → IsAfter (ls ++ l ∷ []) t
reached_on ls s l t (inl none) goes =
    subst (λ (xs : List (List ℕ)). IsAfter (xs ++ l ∷ []) t) (sym none.0)
    (on_first l t (ap (λ (u : StateProgress). past_line u l) (sym none.1) ∙ goes))
reached_on ls s l t (inr h) goes = on_line ls s h l t goes

reached_further : (before ls : List (List ℕ)) (s t : StateProgress) → IsReached before s
    → past_lines s ls ≡ Some t → IsReached (before ++ ls) t
reached_further before [] s t h goes =
    let same : s ≡ t = cc goes in
    subst (IsReached (before ++ [])) same
    (subst (λ (xs : List (List ℕ)). IsReached xs s) (sym (append-nil before)) h)
reached_further before (l ∷ ls) s t h goes =
    let step = option_and_then-some (λ u. past_lines u ls) (past_line s l) t goes in
    subst (λ (xs : List (List ℕ)). IsReached xs t) (append_assoc before (l ∷ []) ls)
    (reached_further (before ++ l ∷ []) ls step.0 t (inr (reached_on before s l step.0 h step.1))
    step.2)

pub IsReached-past_lines : (ls : List (List ℕ)) (s : StateProgress)
    → past_lines before_lines ls ≡ Some s
    → IsReached ls s
IsReached-past_lines ls s goes = reached_further [] ls before_lines s (inl (refl, refl)) goes

pub BeginState-reached : (ls : List (List ℕ)) (s : StateProgress) → IsReached ls s → BeginState ls
BeginState-reached [] s h = tt
BeginState-reached (l ∷ ls) s (inl none) = absurd (cc none.0)
BeginState-reached (l ∷ ls) s (inr h) = (h.counts, parts_of s, h.said, h.ordered, h.within)
