-- What the first lines of a state say, and which lines are allowed next.
use Rattle.std.specs.Prelude.{◌≡◌, ℕ, ℤ, ◌+◌, ◌==◌, ◌&&◌, Bool, false, not, nat_lt, List, [], ◌∷◌}
use Rattle.std.specs.Prelude.{◌++◌, length, Option, Some, None, option_map, option_and_then}
use Rattle.std.specs.Prelude.{if◌then◌else◌}
use Rattle.epx_types.specs.Done.{is_among}
use Rattle.epx_types.specs.Ids.{id_cmp}
use Rattle.epx_types.specs.Instances.{Instance}
use Rattle.epx_types.specs.Keys.{key_cmp}
use Rattle.epx_report.specs.inner.Progress.{last, is_after_last}
use Rattle.epx_executor.specs.Runs.{end_of, ids_in, start_of}
use Rattle.epx_executor.specs.declared.done_runs.Run.{Run}
use Rattle.epx_state.specs.declared.forms.StateCounts.{StateCounts}
use Rattle.epx_state.specs.StateForms.{StateParts, counts_of_line, entry_of_line, pair_of_line}
use Rattle.epx_state.specs.StateForms.{run_of_line}

-- what the lines so far say
pub record StateProgress : Type 0 where
  -- the counts of the first line; None before it
  pub counts : Option StateCounts
  pub runs : List Run
  pub waiting : List Instance
  pub stored : List (List ℕ × ℤ)

-- before the first line
abbrev pub before_lines : StateProgress
before_lines = record { counts = None; runs = []; waiting = []; stored = [] }

-- the runs, the instances that wait and the pairs so far, without the counts
abbrev pub parts_of : StateProgress → StateParts
parts_of s = record { runs = s.runs; waiting = s.waiting; stored = s.stored }

-- ---- the state after what a line says, if it is in order

-- a run that begins after the last one ends
abbrev pub after_run : StateProgress → Run → Option StateProgress
after_run s r = if is_after_last id_cmp (option_map end_of (last s.runs)) (start_of r)
    then Some (record s { runs = s.runs ++ r ∷ [] }) else None

-- an instance with a greater Id than the last one, which is in none of the runs
abbrev pub after_entry : StateProgress → Instance → Option StateProgress
after_entry s e =
    if is_after_last id_cmp (option_map (λ l. l.id) (last s.waiting)) e.id
    && not (is_among (ids_in s.runs) e.id)
    then Some (record s { waiting = s.waiting ++ e ∷ [] }) else None

-- a key that is greater than the last one, and its value
abbrev pub after_pair : StateProgress → List ℕ × ℤ → Option StateProgress
after_pair s p = if is_after_last key_cmp (option_map (λ q. q.0) (last s.stored)) p.0
    then Some (record s { stored = s.stored ++ p ∷ [] }) else None

-- ---- the state after a line, if it is allowed at its position

-- the first line: it says the counts
abbrev pub after_counts : StateProgress → List ℕ → Option StateProgress
after_counts s bytes = option_map (λ c. record s { counts = Some c }) (counts_of_line bytes)

-- a line after the first one: a run while runs are missing, then an instance while instances are
-- missing, then a pair while pairs are missing
abbrev pub after_part : StateCounts → StateProgress → List ℕ → Option StateProgress
after_part c s bytes =
    if nat_lt (length s.runs) c.runs then option_and_then (after_run s) (run_of_line bytes) else
    (if nat_lt (length s.waiting) c.waiting
    then option_and_then (after_entry s) (entry_of_line bytes) else
    (if nat_lt (length s.stored) c.stored
    then option_and_then (after_pair s) (pair_of_line bytes) else None))

-- a line once these counts are known, or the first line as long as none are
abbrev pub past_with : Option StateCounts → StateProgress → List ℕ → Option StateProgress
past_with None s bytes = after_counts s bytes
past_with (Some c) s bytes = after_part c s bytes

-- one more line after those that led to the state
unfoldable pub past_line : StateProgress → List ℕ → Option StateProgress
past_line s bytes = past_with s.counts s bytes

-- the state after all lines, if each is allowed at its position
abbrev pub past_lines : StateProgress → List (List ℕ) → Option StateProgress
past_lines s [] = Some s
past_lines s (l ∷ ls) = option_and_then (λ t. past_lines t ls) (past_line s l)

-- `next` of the lines was read: the lines before it lead to the state s, and it has this number
pub record IsReadTo (lines next : List (List ℕ)) (number : ℕ) (s : StateProgress) : Type 0 where
  pub before : List (List ℕ)
  pub parts : lines ≡ before ++ next
  pub number_is : number ≡ length before + 1
  pub reached : past_lines before_lines before ≡ Some s

-- ---- the end

-- there are so many runs, instances and pairs as are counted; without counts some are missing
abbrev pub is_whole_with : Option StateCounts → StateProgress → Bool
is_whole_with None s = false
is_whole_with (Some c) s =
    (length s.runs == c.runs) && (length s.waiting == c.waiting) && (length s.stored == c.stored)

-- no line is missing
abbrev pub is_whole_state : StateProgress → Bool
is_whole_state s = is_whole_with s.counts s
