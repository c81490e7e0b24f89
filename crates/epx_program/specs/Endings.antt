-- What a task writes, and the exit status of the program.
use Rattle.std.specs.Prelude.{◌≡◌, ◌≢◌, ◌⊎◌, ℕ, Bool, true, List, [], ◌∷◌, Option, Result, Ok, Err}
use Rattle.std.specs.Prelude.{drop, MatchResult}
use Rattle.std.specs.Io.KnownBytes.{Appends, Keeps}
use Rattle.epx_types.specs.declared.fault.Fault.{Fault}
use Rattle.epx_types.specs.declared.fault.Fault.TheVariants.{Write}
use Rattle.epx_types.specs.Faults.{fault_status}
use Rattle.epx_devices.specs.Transfers.{AppendsPrefix}
use Rattle.epx_names.specs.declared.task.Task.{Task}
use Rattle.epx_names.specs.declared.task.Task.TheVariants.{Resume, Check, CheckPrefix}
use Rattle.epx_names.specs.declared.task.Task.TheVariants.{Replay, Verify, Linear}
use Rattle.epx_tool.specs.Findings.{AnswersFinding, IsFindingText}
use Rattle.epx_tool.specs.Runs.{IsFaultOfRun}
use Rattle.epx_tool.specs.RunsWithInput.{IsRunFaultWithInput}
use Rattle.epx_tool.specs.TaskAnswers.{AnswersLogs, IsBadInput}
use Rattle.epx_tool.specs.TaskTexts.{IsTaskText}
use Rattle.epx_tool.specs.WithInput.{AnswersWithInput}

-- the first of some texts; if there is none, it is empty
abbrev pub first_of : List (List ℕ) → List ℕ
first_of [] = []
first_of (text ∷ texts) = text

-- `Both` of the first text, which is the input, and of the logs after it, if the task has an input;
-- otherwise `Logs` of all the texts
abbrev pub over_texts : Task → (List ℕ → List (List ℕ) → Type 0) → (List (List ℕ) → Type 0)
    → List (List ℕ) → Type 0
over_texts Resume Both Logs texts = Both (first_of texts) (drop 1 texts)
over_texts Check Both Logs texts = Both (first_of texts) (drop 1 texts)
over_texts CheckPrefix Both Logs texts = Both (first_of texts) (drop 1 texts)
over_texts Replay Both Logs texts = Both (first_of texts) (drop 1 texts)
over_texts Verify Both Logs texts = Both (first_of texts) (drop 1 texts)
over_texts (Linear skew) Both Logs texts = Both (first_of texts) (drop 1 texts)
over_texts _ Both Logs texts = Logs texts

-- the answer of a task to the texts at its paths
abbrev pub IsTaskAnswer : Task → List (List ℕ) → Result (List ℕ) Fault → Type 0
IsTaskAnswer task texts answer = over_texts task
    (λ input logs. AnswersWithInput (IsBadInput task) (IsTaskText task) input logs answer)
    (λ logs. AnswersLogs task logs answer) texts

-- the faults with which a run of the task over these texts may end: their refusal, or that of a
-- read or a write that failed
abbrev pub IsTaskFault : Task → List (List ℕ) → Fault → Type 0
IsTaskFault task texts fault = over_texts task
    (λ input logs. IsRunFaultWithInput (IsBadInput task) (IsTaskText task) input logs fault)
    (λ logs. IsFaultOfRun (AnswersLogs task) logs fault) texts

-- the text is the answer of the task to these texts, and `found` is whether it finds something
abbrev pub IsTaskFinding : Task → Bool → List (List ℕ) → List ℕ → Type 0
IsTaskFinding task found texts text = over_texts task
    (λ input logs. AnswersWithInput (IsBadInput task) (IsFindingText task found) input logs
    (Ok text)) (λ logs. AnswersFinding task found logs (Ok text)) texts

-- the answer of the task to these texts is appended to the output, and `found` is whether it finds
-- something
abbrev pub AppendsAnswer : Task → Bool → List (List ℕ) → Option (List ℕ) → Option (List ℕ) → Type 0
AppendsAnswer task found texts old new =
    (text : List ℕ) × IsTaskFinding task found texts text × Appends old new text

-- a prefix of the answer of the task to these texts is appended to the output
abbrev pub AppendsPart : Task → List (List ℕ) → Option (List ℕ) → Option (List ℕ) → Type 0
AppendsPart task texts old new =
    (text : List ℕ) × IsTaskAnswer task texts (Ok text) × AppendsPrefix old new text

-- the answer of the task to some texts that were read, as `AreRead` says, is appended to the
-- output, and `found` is whether it finds something
abbrev pub AddsAnswer : Task → Bool → (List (List ℕ) → Type 0) → Option (List ℕ) → Option (List ℕ)
    → Type 0
AddsAnswer task found AreRead old new =
    (texts : List (List ℕ)) × AreRead texts × AppendsAnswer task found texts old new

-- a prefix of the answer of the task to some texts that were read, as `AreRead` says, is appended
-- to the output
abbrev pub AddsPart : Task → (List (List ℕ) → Type 0) → Option (List ℕ) → Option (List ℕ) → Type 0
AddsPart task AreRead old new =
    (texts : List (List ℕ)) × AreRead texts × AppendsPart task texts old new

-- the task over these texts has this fault; a fault of the output leaves a prefix of the answer
-- there, and any other fault leaves the output unchanged
pub record HasFault (task : Task) (texts : List (List ℕ)) (fault : Fault)
    (old new : Option (List ℕ)) : Type 0 where
  pub named : IsTaskFault task texts fault
  pub part : fault ≡ Write → AppendsPart task texts old new
  pub nothing : fault ≢ Write → Keeps old new

-- what a task over these texts comes to: the answer is appended, or there is a fault
abbrev pub IsTaskResult : Task → List (List ℕ) → Result Bool Fault
    → Option (List ℕ) → Option (List ℕ) → Type 0
IsTaskResult task texts done old new =
    MatchResult done (λ found. AppendsAnswer task found texts old new)
    (λ fault. HasFault task texts fault old new)

-- the status of an answer: 5 if `--exit-code` is there and the answer finds something, otherwise 0
abbrev pub answer_status : Bool → Bool → ℕ
answer_status true true = 5
answer_status _ _ = 0

-- the status after a task: that of the answer if it succeeded, otherwise that of the fault
abbrev pub status_of : Bool → Result Bool Fault → ℕ
status_of exit_code (Ok found) = answer_status exit_code found
status_of exit_code (Err fault) = fault_status fault

-- the status with which a task over these texts ends: that of its answer if this is appended,
-- otherwise that of a fault
abbrev pub EndsWith : Bool → Task → List (List ℕ) → ℕ → Option (List ℕ) → Option (List ℕ) → Type 0
EndsWith exit_code task texts status old new =
    ((found : Bool) × (status ≡ answer_status exit_code found)
    × AppendsAnswer task found texts old new)
    ⊎ ((fault : Fault) × HasFault task texts fault old new × (status ≡ fault_status fault))

-- the status of an answer, 0 or 5
abbrev pub IsAnswerStatus : ℕ → Type 0
IsAnswerStatus status = (status ≡ 0) ⊎ (status ≡ 5)

-- the status of an answer, 0 or 5, or of a fault: 1, 3 or 4
abbrev pub IsStatus : ℕ → Type 0
IsStatus status = IsAnswerStatus status ⊎ ((fault : Fault) × (status ≡ fault_status fault))
