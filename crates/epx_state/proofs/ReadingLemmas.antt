-- Reading the lines of a text finds what a state says, or the first bad line.
use Rattle.std.proofs.Common.{◌≡◌, inl, inr, ℕ, ◌+◌, ◌-◌, ◌==◌, true, false, List}
use Rattle.std.proofs.Common.{[], ◌∷◌, ◌++◌, length, take, Option, Some, None, option_and_then}
use Rattle.std.proofs.Common.{refl, sym, ap, ◌∙◌, subst, arith, append-nil, append_assoc}
use Rattle.epx_types.proofs.Common.{length_push, nat_tests, take_at}
use Rattle.epx_lines.specs.Lines.{lines_of}
use Rattle.epx_report.specs.BadLines.{IsFirstNotGood}
use Rattle.epx_report.proofs.BegunBaseLemmas.{and-both, eq-from_true}
use Rattle.epx_state.specs.declared.forms.StateCounts.{StateCounts}
use Rattle.epx_state.specs.StateForms.{StateParts, state_counts}
use Rattle.epx_state.specs.StateFaults.{StateEndsEarly}
use Rattle.epx_state.specs.States.{FitCounts, BeginState, IsState, SayState}
use Rattle.epx_state.specs.inner.StateProgress.{IsReadTo, StateProgress, before_lines, parts_of}
use Rattle.epx_state.specs.inner.StateProgress.{is_whole_state, past_line, past_lines}
use Rattle.epx_state.proofs.AllowedLemmas.{past_lines-said, state}
use Rattle.epx_state.proofs.FormLemmas.{option_and_then-some}
use Rattle.epx_state.proofs.ReachedLemmas.{IsAfter, IsReached, BeginState-reached}
use Rattle.epx_state.proofs.ReachedLemmas.{IsReached-past_lines}

-- ---- one line more

some_of_all : (o : Option StateProgress) → option_and_then (λ t. Some t) o ≡ o
some_of_all None = refl
some_of_all (Some t) = refl

then_line : (s t : StateProgress) (ls : List (List ℕ)) (l : List ℕ) → past_lines s ls ≡ Some t
    → past_lines s (ls ++ l ∷ []) ≡ past_line t l
then_line s t [] l goes =
    let same : s ≡ t = cc goes in
    some_of_all (past_line s l) ∙ ap (λ (u : StateProgress). past_line u l) same
then_line s t (x ∷ ls) l goes =
    let step =
    option_and_then-some (λ (u : StateProgress). past_lines u ls) (past_line s x) t goes in
    rw step.1 (then_line step.0 t ls l step.2)

-- lines that begin a state are allowed
allowed_if_begin : (l : List ℕ) (ls : List (List ℕ)) → BeginState (l ∷ ls)
    → (t : StateProgress) × (past_lines before_lines (l ∷ ls) ≡ Some t)
allowed_if_begin l ls h =
    let p : StateParts = h.1 in
    (state h.0 p.runs p.waiting p.stored, past_lines-said h.0 (l ∷ ls) p h.2 h.3 h.4)

begin_is_allowed : (ls : List (List ℕ)) → BeginState ls
    → (t : StateProgress) × (past_lines before_lines ls ≡ Some t)
begin_is_allowed [] h = (before_lines, refl)
begin_is_allowed (l ∷ ls) h = allowed_if_begin l ls h

-- ---- lines that are read one after another

pub read_to-start : (lines : List (List ℕ)) → IsReadTo lines lines 1 before_lines
read_to-start lines = record { before = []; parts = refl; number_is = refl; reached = refl }

module _ (lines next : List (List ℕ)) (l : List ℕ) (n : ℕ) (s : StateProgress)
    (h : IsReadTo lines (l ∷ next) n s) where
  pub read_to-next : (t : StateProgress) → past_line s l ≡ Some t → IsReadTo lines next (n + 1) t
  read_to-next t goes = record {
    before = h.before ++ l ∷ [];
    parts = h.parts ∙ sym (append_assoc h.before (l ∷ []) next);
    number_is = omega (arith, h.number_is, length_push h.before l);
    reached = then_line before_lines s h.before l h.reached ∙ goes;
  }

  before_it : take (n - 1) lines ≡ h.before
  before_it =
      ap (take (n - 1)) h.parts
      ∙ take_at h.before (l ∷ next) (n - 1) (omega (arith, h.number_is))

  with_it : take n lines ≡ h.before ++ l ∷ []
  with_it =
      ap (take n) (h.parts ∙ sym (append_assoc h.before (l ∷ []) next))
      ∙ take_at (h.before ++ l ∷ []) next n (omega (arith, h.number_is, length_push h.before l))

  pub IsFirstNotGood-stops : past_line s l ≡ None → IsFirstNotGood BeginState lines n
  IsFirstNotGood-stops stopped = record {
    good_before = subst BeginState (sym before_it)
        (BeginState-reached h.before s (IsReached-past_lines h.before s h.reached));
    bad_with = λ begins.
        let on = begin_is_allowed (h.before ++ l ∷ []) (subst BeginState with_it begins) in
        cc (sym stopped ∙ sym (then_line before_lines s h.before l h.reached) ∙ on.1);
  }

-- ---- the end

complete_within : (p : StateParts) → FitCounts (state_counts p) p
complete_within p = record {
  runs = omega arith;
  waiting = omega arith;
  stored = omega arith;
  runs_first = λ k. absurd (omega (arith, k));
  waiting_next = λ k. absurd (omega (arith, k));
}

tied : (n : ℕ) → (n == n) ≡ true
tied n = grind (arith, nat_tests)

module _ (bytes : List ℕ) (n : ℕ) (s : StateProgress) (h : IsReadTo (lines_of bytes) [] n s) where
  all_read : h.before ≡ lines_of bytes
  all_read = sym (append-nil h.before) ∙ sym h.parts

  all_reached : IsReached (lines_of bytes) s
  all_reached = subst (λ (ls : List (List ℕ)). IsReached ls s) all_read
      (IsReached-past_lines h.before s h.reached)

  pub IsState-read : is_whole_state s ≡ true → IsState bytes (parts_of s)
  IsState-read complete = elim all_reached [
    | inl none ↦
        let nothing : is_whole_state before_lines ≡ true =
        ap is_whole_state (sym none.1) ∙ complete in absurd (cc nothing)
    | inr after ↦ whole after
  ]
    where
      whole : IsAfter (lines_of bytes) s → IsState bytes (parts_of s)
      whole after =
          let counted = and-both _ _ (rw after.counts_are at complete) in
          let first = and-both _ _ counted.0 in
          let runs : length s.runs ≡ after.counts.runs = eq-from_true _ _ first.0 in
          let waiting : length s.waiting ≡ after.counts.waiting = eq-from_true _ _ first.1 in
          let stored : length s.stored ≡ after.counts.stored = eq-from_true _ _ counted.1 in
          let same : after.counts ≡ state_counts (parts_of s) = λ i. record {
            runs = sym runs i;
            waiting = sym waiting i;
            stored = sym stored i;
          } in
          record {
            said = subst (λ (c : StateCounts). SayState (lines_of bytes) c (parts_of s)) same
                after.said;
            ordered = after.ordered;
          }

  pub StateEndsEarly-not_whole : is_whole_state s ≡ false → StateEndsEarly bytes n
  StateEndsEarly-not_whole early = record {
    line_is = omega (arith, h.number_is, ap length all_read);
    begins = BeginState-reached (lines_of bytes) s all_reached;
    not_whole = λ p is.
        let goes = past_lines-said (state_counts p) (lines_of bytes) p is.said is.ordered
        (complete_within p) in
        let read : past_lines before_lines (lines_of bytes) ≡ Some s =
        ap (past_lines before_lines) (sym all_read) ∙ h.reached in
        let same : Some (state (state_counts p) p.runs p.waiting p.stored) ≡ Some s =
        sym goes ∙ read in
        let here : state (state_counts p) p.runs p.waiting p.stored ≡ s = cc same in
        let complete : is_whole_state (state (state_counts p) p.runs p.waiting p.stored) ≡ true =
        rw (tied (length p.runs), tied (length p.waiting), tied (length p.stored)) refl in
        absurd (cc (sym (ap is_whole_state here) ∙ complete, early));
  }
