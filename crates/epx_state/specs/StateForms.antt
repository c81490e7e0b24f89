-- The lines of a state: how they are written, and what they say in any spelling.
use Rattle.std.specs.Prelude.{ℕ, ℤ, ◌^◌, ◌&&◌, ◌++◌, nat_le, List, [], ◌∷◌, length, flat_map}
use Rattle.std.specs.Prelude.{codes, Option, Some, None, Result, Ok, Err, option_map}
use Rattle.std.specs.Prelude.{option_and_then, if◌then◌else◌}
use Rattle.serde_json.specs.Data.{Data, string}
use Rattle.epx_types.specs.Instances.{Instance}
use Rattle.epx_types.specs.declared.fault.Why.{Why}
use Rattle.epx_lines.specs.Elements.{whole, signed, elements}
use Rattle.epx_lines.specs.Meaning.{json_of, meaning_of}
use Rattle.epx_lines.specs.OperationList.{key_of}
use Rattle.epx_lines.specs.Text.{line_text}
use Rattle.epx_lines.specs.declared.Line.{Line}
use Rattle.epx_lines.specs.declared.Line.TheVariants.{Blank, Entry}
use Rattle.epx_report.specs.Forms.{is_text}
use Rattle.epx_report.specs.ReportLines.{data_of_number, line_feed, line_of, store_line}
use Rattle.epx_executor.specs.declared.done_runs.Run.{Run}
use Rattle.epx_state.specs.declared.forms.StateCounts.{StateCounts}

-- what a state holds: the runs of the executed numbers, the instances that wait, and the keys and
-- values of the store
pub record StateParts : Type 0 where
  pub runs : List Run
  pub waiting : List Instance
  pub stored : List (List ℕ × ℤ)

-- ---- how the lines are written

-- `["state","runs",R,"waiting",W,"store",S]`
abbrev pub state_data : StateCounts → List Data
state_data c = string (codes "state") ∷ string (codes "runs") ∷ data_of_number c.runs
    ∷ string (codes "waiting") ∷ data_of_number c.waiting
    ∷ string (codes "store") ∷ data_of_number c.stored ∷ []

-- `["runs",r,first,last]`: the instances of replica r from the first number to the last
abbrev pub run_data : Run → List Data
run_data r = string (codes "runs") ∷ data_of_number r.replica ∷ data_of_number r.first
    ∷ data_of_number r.last ∷ []

-- the line `["runs",r,first,last]` of a run
abbrev pub run_line : Run → List ℕ
run_line r = line_of (run_data r)

-- the line of an instance, as in a log
abbrev pub entry_line : Instance → List ℕ
entry_line e = line_text e ++ line_feed ∷ []

-- the counts of the first line: how many runs, instances that wait and keys there are
abbrev pub state_counts : StateParts → StateCounts
state_counts p =
    record { runs = length p.runs; waiting = length p.waiting; stored = length p.stored }

-- the first line, the runs, the instances that wait, and the store
abbrev pub text_of_state : StateParts → List ℕ
text_of_state p = line_of (state_data (state_counts p))
    ++ (flat_map run_line p.runs ++ (flat_map entry_line p.waiting ++ flat_map store_line p.stored))

-- ---- what a line says

-- what `form` reads of the elements of the array that the line has; None if its bytes are no JSON
-- array
abbrev pub of_line : {A : Type 0} → (List Data → Option A) → List ℕ → Option A
of_line form bytes = option_and_then form (option_and_then elements (json_of bytes))

-- the numbers of runs, waiting instances and keys; None unless all are whole numbers below 2^64
abbrev pub counts_from : Data → Data → Data → Option StateCounts
counts_from r w s = option_and_then (λ runs. option_and_then (λ waiting. option_map
    (λ stored. record { runs = runs; waiting = waiting; stored = stored })
    (whole (2 ^ 64) s)) (whole (2 ^ 64) w)) (whole (2 ^ 64) r)

-- the counts, if the elements are those of `["state","runs",R,"waiting",W,"store",S]`
abbrev pub counts_of_list : List Data → Option StateCounts
counts_of_list (n ∷ a ∷ r ∷ b ∷ w ∷ c ∷ s ∷ []) =
    if is_text (codes "state") n && is_text (codes "runs") a && is_text (codes "waiting") b
    && is_text (codes "store") c then counts_from r w s else None
counts_of_list _ = None

-- the run from the first number to the last, if the last is not smaller
abbrev pub run_within : ℕ → ℕ → ℕ → Option Run
run_within replica first last = if nat_le first last
    then Some (record { replica = replica; first = first; last = last }) else None

-- the run of a replica below 256 and two whole numbers below 2^64, if the second is not smaller
abbrev pub run_from : Data → Data → Data → Option Run
run_from r f l = option_and_then (λ replica. option_and_then (λ first. option_and_then
    (λ last. run_within replica first last)
    (whole (2 ^ 64) l)) (whole (2 ^ 64) f)) (whole 256 r)

-- the run, if the elements are those of `["runs",r,first,last]`
abbrev pub run_of_list : List Data → Option Run
run_of_list (n ∷ r ∷ f ∷ l ∷ []) = if is_text (codes "runs") n then run_from r f l else None
run_of_list _ = None

-- a key and its value of 64 bits with sign, if the elements are those of `["store",k,v]`
abbrev pub pair_of_list : List Data → Option (List ℕ × ℤ)
pair_of_list (n ∷ k ∷ v ∷ []) = if is_text (codes "store") n
    then option_and_then (λ key. option_map (λ value. (key, value)) (signed v)) (key_of k) else None
pair_of_list _ = None

-- the instance of a line with this meaning; None if the line is bad or commits none
abbrev pub entry_of : Result Line Why → Option Instance
entry_of (Ok (Entry e)) = Some e
entry_of (Ok Blank) = None
entry_of (Err why) = None

-- the counts that a line says, if it is the first line of a state, in any spelling
unfoldable pub counts_of_line : List ℕ → Option StateCounts
counts_of_line bytes = of_line counts_of_list bytes

-- the run that a line says, if it is the line of a run, in any spelling
unfoldable pub run_of_line : List ℕ → Option Run
run_of_line bytes = of_line run_of_list bytes

-- the instance that a line commits, read as a line of a log
unfoldable pub entry_of_line : List ℕ → Option Instance
entry_of_line bytes = entry_of (meaning_of bytes)

-- the key and the value that a line says, if it is a line of the store, in any spelling
unfoldable pub pair_of_line : List ℕ → Option (List ℕ × ℤ)
pair_of_line bytes = of_line pair_of_list bytes
