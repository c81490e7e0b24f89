-- The answer to a list of logs: the report, or the first refusal.
use Rattle.std.specs.Prelude.{ℕ, List, Result, Ok, Err}
use Rattle.epx_types.specs.declared.fault.Fault.{Fault}
use Rattle.epx_types.specs.Instances.{Instance}
use Rattle.epx_merge.specs.Refusals.{IsRefusal}
use Rattle.epx_merge.specs.Acceptance.{IsAccepted}
use Rattle.epx_tool.specs.Report.{IsReport}

-- the answer to logs: a text of the map that they commit, or their first refusal; Is says which
-- text answers a committed map
abbrev pub Answers : (List Instance → List ℕ → Type 0) → List (List ℕ) → Result (List ℕ) Fault
    → Type 0
Answers Is logs (Ok text) = (m : List Instance) × IsAccepted logs m × Is m text
Answers Is logs (Err fault) = IsRefusal logs fault

-- the answer to logs where the text is the report
abbrev pub IsAnswer : List (List ℕ) → Result (List ℕ) Fault → Type 0
IsAnswer = Answers IsReport
