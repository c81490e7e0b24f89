-- Laws of answers to an input and logs.
use Rattle.std.specs.Prelude.{◌≡◌, ◌≢◌, ℕ, List, Result, Err}
use Rattle.epx_types.specs.declared.fault.Fault.{Fault}
use Rattle.epx_types.specs.declared.fault.Fault.TheVariants.{Memory}
use Rattle.epx_names.specs.declared.task.Task.{Task}
use Rattle.epx_tool.specs.TaskAnswers.{AnswersTask}

-- an input and logs have an answer to each task, other than out of memory
abbrev pub InputAnswerExists : Type 0
InputAnswerExists = (task : Task) (input : List ℕ) (logs : List (List ℕ))
    → (a : Result (List ℕ) Fault) × (a ≢ Err Memory) × AnswersTask task input logs a

-- an input and logs have at most one answer to each task, except for out of memory
abbrev pub InputAnswerIsUnique : Type 0
InputAnswerIsUnique = (task : Task) (input : List ℕ) (logs : List (List ℕ))
    (a b : Result (List ℕ) Fault) → a ≢ Err Memory → b ≢ Err Memory
    → AnswersTask task input logs a → AnswersTask task input logs b → a ≡ b
