-- Runs of consecutive numbers, and the Ids in them.
use Rattle.std.specs.Prelude.{◌≡◌, ◌+◌, ◌-◌, ◌≤◌, List, map, flat_map, All, AllPairs, Contains}
use Rattle.std.specs.List.{range_with_len}
use Rattle.epx_types.specs.declared.id.Id.{Id}
use Rattle.epx_types.specs.Ids.{Below, UpTo}
use Rattle.epx_executor.specs.declared.done_runs.Run.{Run}

-- the Id is of the replica of the run, and its number is one of the run
abbrev pub IsInRun : Run → Id → Type 0
IsInRun r x = (x.replica ≡ r.replica) × (r.first ≤ x.number) × (x.number ≤ r.last)

-- the Id is in one of the runs
abbrev pub IsInRuns : List Run → Id → Type 0
IsInRuns runs x = (r : Run) × Contains runs r × IsInRun r x

-- the Id with the first number of a run
abbrev pub start_of : Run → Id
start_of r = record { replica = r.replica; number = r.first }

-- the Id with the last number of a run
abbrev pub end_of : Run → Id
end_of r = record { replica = r.replica; number = r.last }

-- the run is not empty: its first number is at most its last one
abbrev pub IsFilledRun : Run → Type 0
IsFilledRun r = r.first ≤ r.last

-- no run is empty
abbrev pub AreFilled : List Run → Type 0
AreFilled runs = All IsFilledRun runs

-- the first Id of each run is at most that of each later run
abbrev pub BeginInOrder : List Run → Type 0
BeginInOrder runs = AllPairs (λ a b. UpTo (start_of a) (start_of b)) runs

-- no run is empty, and each ends before all later ones begin, by replica and then number
pub record AreRuns (runs : List Run) : Type 0 where
  pub filled : AreFilled runs
  pub apart : AllPairs (λ a b. Below (end_of a) (start_of b)) runs

-- the Ids in a run, by rising number
unfoldable pub ids_of_run : Run → List Id
ids_of_run r = map (λ n. record { replica = r.replica; number = n })
    (range_with_len r.first (r.last + 1 - r.first))

-- the Ids in some runs, run by run
unfoldable pub ids_in : List Run → List Id
ids_in runs = flat_map ids_of_run runs
