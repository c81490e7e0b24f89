-- The text of a state is that state.
use Rattle.std.proofs.Common.{◌≡◌, ℕ, suc, true, ℤ, List, [], ◌∷◌, ◌++◌, get_or, map, flat_map, All}
use Rattle.std.proofs.Common.{Option, Some, refl, sym, ap, ap₂, ◌∙◌, subst, arith, append_assoc}
use Rattle.std.proofs.Common.{append-nil, Contains, T}
use Rattle.std.specs.FinMap as contents
use Rattle.std.specs.FinMap.{is_sorted}
use Rattle.epx_types.proofs.Common.{Instance, IsRising, ids_of, key_cmp}
use Rattle.serde_json.specs.Data.{Data}
use Rattle.serde_json.specs.Written.{compact_text}
use Rattle.epx_lines.specs.Lines.{lines_of}
use Rattle.epx_lines.specs.Text.{line_text, object_of}
use Rattle.epx_report.specs.ReportLines.{array_of, line_of, store_data, store_line}
use Rattle.epx_report.proofs.LineFeedLemmas.{is_unbroken, lines_of-unbroken, lines_of-each}
use Rattle.epx_report.proofs.RisingListLemmas.{T-true}
use Rattle.epx_executor.specs.Commits.{AllWait, ExecutorView}
use Rattle.epx_executor.specs.Runs.{AreRuns}
use Rattle.epx_executor.specs.declared.done_runs.Run.{Run}
use Rattle.epx_state.specs.declared.forms.StateCounts.{StateCounts}
use Rattle.epx_state.specs.StateForms.{StateParts, state_data, run_data, run_line}
use Rattle.epx_state.specs.StateForms.{state_counts, entry_line, text_of_state, run_of_line}
use Rattle.epx_state.specs.StateForms.{entry_of_line, pair_of_line}
use Rattle.epx_state.specs.States.{AreInOrder, HoldsState, IsState}
use Rattle.epx_state.specs.inner.WrittenLines.{AreReadCounts, IsReadEntry, IsReadPair, IsReadRun}
use Rattle.epx_state.proofs.UnbrokenTextLemmas.{is_unbroken-value}

abbrev text_of : List Data → List ℕ
text_of ds = compact_text (array_of ds)

each_unbroken : {X : Type 0} (data_of : X → Data) (xs : List X)
    → All (λ x. is_unbroken (compact_text (data_of x)) ≡ true) xs
each_unbroken data_of xs = λ k d l. is_unbroken-value (data_of (get_or xs k d))

-- lines that each say their item say all of them
said_by : {X : Type 0} (text : X → List ℕ) (form : List ℕ → Option X) (xs : List X)
    → All (λ x. form (text x) ≡ Some x) xs → map form (map text xs) ≡ map Some xs
said_by text form [] h = refl
said_by text form (x ∷ xs) h = ap₂ (λ o os. o ∷ os) (h 0 x (omega arith))
    (said_by text form xs (λ k d l. h (suc k) d (omega arith)))

-- each line of a state is read as the part that it is written from
pub record EachIsRead (p : StateParts) : Type 0 where
  pub counts : AreReadCounts (state_counts p)
  pub runs : All IsReadRun p.runs
  pub waiting : All IsReadEntry p.waiting
  pub stored : All IsReadPair p.stored

module _ (p : StateParts) where
  texts : List (List ℕ)
  texts = text_of (state_data (state_counts p)) ∷ (map (λ r. text_of (run_data r)) p.runs
      ++ (map line_text p.waiting ++ map (λ s. text_of (store_data s)) p.stored))

  lines_of-written : lines_of (text_of_state p) ≡ texts
  unfolding texts
  lines_of-written =
      let stored = flat_map store_line p.stored in
      let waiting = flat_map entry_line p.waiting ++ stored in
      let rest = flat_map run_line p.runs ++ waiting in
      let first = text_of (state_data (state_counts p)) in
      let all_runs = lines_of-each (λ (r : Run). text_of (run_data r)) p.runs waiting
      (each_unbroken (λ (r : Run). array_of (run_data r)) p.runs) in
      let all_waiting = lines_of-each line_text p.waiting stored
      (each_unbroken object_of p.waiting) in
      let all_stored = lines_of-each (λ (s : List ℕ × ℤ). text_of (store_data s)) p.stored []
      (each_unbroken (λ (s : List ℕ × ℤ). array_of (store_data s)) p.stored) in
      ap lines_of (append_assoc first (10 ∷ []) rest)
      ∙ lines_of-unbroken first rest (is_unbroken-value (array_of (state_data (state_counts p))))
      ∙ ap (λ ls. first ∷ ls)
      (all_runs ∙ ap (λ ls. map (λ (r : Run). text_of (run_data r)) p.runs ++ ls)
      (all_waiting ∙ ap (λ ls. map line_text p.waiting ++ ls)
      (ap lines_of (sym (append-nil stored)) ∙ all_stored ∙ append-nil _)))

  pub IsState-text_of_state : EachIsRead p → AreInOrder p → IsState (text_of_state p) p
  unfolding texts
  IsState-text_of_state h ordered = record {
    said = record {
      first = text_of (state_data (state_counts p));
      runs = map (λ (r : Run). text_of (run_data r)) p.runs;
      waiting = map line_text p.waiting;
      stored = map (λ (s : List ℕ × ℤ). text_of (store_data s)) p.stored;
      cut = lines_of-written;
      counts_said = h.counts.read;
      runs_said = said_by (λ (r : Run). text_of (run_data r)) run_of_line p.runs
          (λ k d l. (h.runs k d l).read);
      waiting_said = said_by line_text entry_of_line p.waiting
          (λ k d l. (h.waiting k d l).read);
      stored_said = said_by (λ (s : List ℕ × ℤ). text_of (store_data s)) pair_of_line
          p.stored (λ k d l. (h.stored k d l).read);
    };
    ordered = ordered;
  }

-- ---- the state of an executor

-- the runs, the instances that wait and the store of an executor are in order
pub AreInOrder-held : (p : StateParts) (v : ExecutorView) → HoldsState p v → AllWait v
    → AreRuns p.runs
    → AreInOrder p
AreInOrder-held p v holds wait runs = record {
  runs = runs;
  waiting = subst (λ (es : List Instance). IsRising (ids_of es)) holds.pending wait.rising;
  left = λ e there among.
      wait.not_done e (subst (λ (es : List Instance). Contains es e) (sym holds.pending) there)
      ((holds.done e.id).1 among);
  stored = T-true _ (subst (λ (es : List (List ℕ × ℤ)). T (is_sorted key_cmp es)) holds.store
      (contents.entries_sorted v.store));
}

-- the sections, written one after another
pub text_of_state-written : (p : StateParts) (c : StateCounts)
    (none first runs waiting text : List ℕ)
    → none ≡ [] → c ≡ state_counts p → first ≡ none ++ line_of (state_data c)
    → runs ≡ first ++ flat_map run_line p.runs → waiting ≡ runs ++ flat_map entry_line p.waiting
    → text ≡ waiting ++ flat_map store_line p.stored → text ≡ text_of_state p
text_of_state-written p c none first runs waiting text start counted h r w s =
    let head = line_of (state_data (state_counts p)) in
    let all_runs = flat_map run_line p.runs in
    let all_waiting = flat_map entry_line p.waiting in
    let all_stored = flat_map store_line p.stored in
    s ∙ ap (λ t. t ++ all_stored) (w ∙ ap (λ t. t ++ all_waiting) (r
    ∙ ap (λ t. t ++ all_runs) (h ∙ ap₂ (λ t d. t ++ line_of (state_data d)) start counted)))
    ∙ append_assoc (head ++ all_runs) all_waiting all_stored
    ∙ append_assoc head all_runs (all_waiting ++ all_stored)

pub HoldsState-written : (p : StateParts) (v : ExecutorView) (text : List ℕ) → HoldsState p v
    → AllWait v
    → AreRuns p.runs → EachIsRead p → text ≡ text_of_state p
    → (q : StateParts) × HoldsState q v × (text ≡ text_of_state q) × IsState text q
HoldsState-written p v text holds wait runs read is = (
  p,
  holds,
  is,
  subst (λ (t : List ℕ). IsState t p) (sym is)
      (IsState-text_of_state p read (AreInOrder-held p v holds wait runs)),
)
