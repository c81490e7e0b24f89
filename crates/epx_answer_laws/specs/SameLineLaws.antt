-- Laws of logs with the same lines, in whatever order and however often.
use Rattle.std.specs.Prelude.{ℕ, List, Contains, Ok}
use Rattle.epx_types.specs.Instances.{Instance}
use Rattle.epx_lines.specs.Lines.{lines_of}
use Rattle.epx_merge.specs.Acceptance.{IsAccepted}
use Rattle.epx_merge.specs.Refusals.{FitLimits}
use Rattle.epx_tool.specs.Answer.{Answers}
use Rattle.epx_tool.specs.TaskTexts.{IsTaskText}
use Rattle.epx_names.specs.declared.task.Task.{Task}

-- one of the logs has the line
abbrev pub HaveLine : List (List ℕ) → List ℕ → Type 0
HaveLine logs line = (log : List ℕ) × Contains logs log × Contains (lines_of log) line

-- each line of the second list of logs is also a line of some log of the first list
abbrev pub HaveLinesOf : List (List ℕ) → List (List ℕ) → Type 0
HaveLinesOf logs other = (line : List ℕ) → HaveLine other line → HaveLine logs line

-- if two lists of logs have the same lines, in whatever order and however often, the first is
-- accepted and the second is within the limits (`FitLimits`), the second is accepted and commits
-- the same map
abbrev pub SameLinesAreAcceptedAlike : Type 0
SameLinesAreAcceptedAlike = (logs other : List (List ℕ)) → HaveLinesOf logs other
    → HaveLinesOf other logs → FitLimits other → (m : List Instance) → IsAccepted logs m
    → IsAccepted other m

-- if two lists of logs have the same lines and the second is within the limits (`FitLimits`), each
-- text that answers a task over the first, with an input or without, answers it over the second
abbrev pub SameLinesAreAnsweredAlike : Type 0
SameLinesAreAnsweredAlike = (logs other : List (List ℕ)) → HaveLinesOf logs other
    → HaveLinesOf other logs → FitLimits other → (task : Task) (input text : List ℕ)
    → Answers (IsTaskText task input) logs (Ok text)
    → Answers (IsTaskText task input) other (Ok text)
