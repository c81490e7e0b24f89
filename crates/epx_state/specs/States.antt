-- What a state is: lines that hold what an executor holds.
use Rattle.std.specs.Prelude.{◌≡◌, ◌↔◌, ◌<◌, ◌≤◌, ℕ, List, [], ◌∷◌, ◌++◌, length, map, Some}
use Rattle.std.specs.Prelude.{Contains, IsTrue}
use Rattle.std.specs.FinMap as contents
use Rattle.std.specs.FinMap.{is_sorted}
use Rattle.epx_types.specs.declared.id.Id.{Id}
use Rattle.epx_types.specs.CommittedMap.{ids_of}
use Rattle.epx_types.specs.Ids.{IsRising}
use Rattle.epx_types.specs.Instances.{Instance}
use Rattle.epx_types.specs.Keys.{key_cmp}
use Rattle.epx_lines.specs.Lines.{lines_of}
use Rattle.epx_executor.specs.Commits.{ExecutorView}
use Rattle.epx_executor.specs.Runs.{AreRuns, IsInRuns}
use Rattle.epx_state.specs.declared.forms.StateCounts.{StateCounts}
use Rattle.epx_state.specs.StateForms.{StateParts, state_counts, counts_of_line}
use Rattle.epx_state.specs.StateForms.{entry_of_line, pair_of_line, run_of_line}

-- the first line says these counts, and the lines after it say these parts, one after another
pub record SayState (lines : List (List ℕ)) (c : StateCounts) (p : StateParts) : Type 0 where
  pub first : List ℕ
  pub runs : List (List ℕ)
  pub waiting : List (List ℕ)
  pub stored : List (List ℕ)
  pub cut : lines ≡ first ∷ (runs ++ (waiting ++ stored))
  pub counts_said : counts_of_line first ≡ Some c
  pub runs_said : map run_of_line runs ≡ map Some p.runs
  pub waiting_said : map entry_of_line waiting ≡ map Some p.waiting
  pub stored_said : map pair_of_line stored ≡ map Some p.stored

-- runs are not empty; runs, Ids and keys rise; and no instance waits that is in a run
pub record AreInOrder (p : StateParts) : Type 0 where
  pub runs : AreRuns p.runs
  pub waiting : IsRising (ids_of p.waiting)
  pub left : (e : Instance) → Contains p.waiting e → ¬ IsInRuns p.runs e.id
  pub stored : IsTrue (is_sorted key_cmp p.stored)

-- no part has more than is counted, and none begins before those in front of it are whole
pub record FitCounts (c : StateCounts) (p : StateParts) : Type 0 where
  pub runs : length p.runs ≤ c.runs
  pub waiting : length p.waiting ≤ c.waiting
  pub stored : length p.stored ≤ c.stored
  pub runs_first : length p.runs < c.runs → (p.waiting ≡ []) × (p.stored ≡ [])
  pub waiting_next : length p.waiting < c.waiting → p.stored ≡ []

-- there is no line, or the first line says counts and the others say parts, which are in order
-- (`AreInOrder`) and fit the counts (`FitCounts`)
abbrev pub BeginState : List (List ℕ) → Type 0
BeginState [] = Unit {0}
BeginState (line ∷ lines) = (c : StateCounts) × (p : StateParts)
    × SayState (line ∷ lines) c p × AreInOrder p × FitCounts c p

-- the bytes are a state of these parts: the first line has their counts, the lines after it say
-- them, and they are in order (`AreInOrder`)
pub record IsState (bytes : List ℕ) (p : StateParts) : Type 0 where
  pub said : SayState (lines_of bytes) (state_counts p) p
  pub ordered : AreInOrder p

-- the executor's done instances are those in the runs; its pending instances and the entries of its
-- store are those of the parts
pub record HoldsState (p : StateParts) (v : ExecutorView) : Type 0 where
  pub done : (x : Id) → Contains v.done x ↔ IsInRuns p.runs x
  pub pending : v.pending ≡ p.waiting
  pub store : contents.entries v.store ≡ p.stored
