-- How a run over logs and an extra input ends, by what their sources delivered in it.
use Rattle.std.specs.Prelude.{◌⊎◌, ℕ, List, length, Ok}
use Rattle.epx_types.specs.declared.fault.Fault.{Fault}
use Rattle.epx_types.specs.Instances.{Instance}
use Rattle.epx_merge.specs.Refusals.{NoneTooLong}
use Rattle.epx_devices.specs.Deliveries.{DeliversAll, IsLogStop}
use Rattle.epx_devices.specs.Models.{SourceModel}
use Rattle.epx_tool.specs.WithInput.{AnswersWithInput, IsRefusalWithInput}
use Rattle.epx_merge.specs.DeliveredLogs.{EachDelivers, StopsReading}

-- In these definitions E is the model of the source of the extra input, and D that of the logs.

-- the sources of all logs delivered them, none too long; reading stopped at the extra input, whose
-- number is the number of logs
pub record StopsAtInput {I S : Type 0} (E : SourceModel I) (D : SourceModel S) (first last : I)
    (old new : List S) (fault : Fault) : Type 0 where
  pub logs : List (List ℕ)
  pub delivered : EachDelivers D old new logs
  pub short : NoneTooLong logs
  pub stopped : IsLogStop E (length old) first last fault

-- both were delivered: the extra input and the logs
pub record DeliversBoth {I S : Type 0} (E : SourceModel I) (D : SourceModel S)
    (first last : I) (old new : List S) (input : List ℕ) (logs : List (List ℕ)) : Type 0 where
  pub of_input : DeliversAll E first last input
  pub of_logs : EachDelivers D old new logs

-- the extra input and the logs that were delivered have an answer, and it was written as `Written`
-- says
pub record AnswersBoth {I S : Type 0} (E : SourceModel I) (D : SourceModel S)
    (IsBad : List ℕ → ℕ → Type 0) (Is : List ℕ → List Instance → List ℕ → Type 0)
    (first last : I) (old new : List S) (Written : List ℕ → Type 0) : Type 0 where
  pub input : List ℕ
  pub logs : List (List ℕ)
  pub delivered : DeliversBoth E D first last old new input logs
  pub text : List ℕ
  pub answer : AnswersWithInput IsBad Is input logs (Ok text)
  pub written : Written text

-- an extra input and logs were delivered, and the fault is their refusal
pub record RefusesBoth {I S : Type 0} (E : SourceModel I) (D : SourceModel S)
    (IsBad : List ℕ → ℕ → Type 0) (first last : I) (old new : List S) (fault : Fault) : Type
    0 where
  pub input : List ℕ
  pub logs : List (List ℕ)
  pub delivered : DeliversBoth E D first last old new input logs
  pub refusal : IsRefusalWithInput IsBad input logs fault

-- reading the logs or the extra input stopped with this fault
abbrev pub StopsReadingBoth : {I S : Type 0} → SourceModel I → SourceModel S
    → I → I → List S → List S → Fault → Type 0
StopsReadingBoth E D first last old new fault =
    StopsReading D old new fault ⊎ StopsAtInput E D first last old new fault

-- a run ends with this fault: reading stopped with it, or it is the refusal of what was delivered
abbrev pub EndsWithoutBoth : {I S : Type 0} → SourceModel I → SourceModel S
    → (List ℕ → ℕ → Type 0) → I → I → List S → List S → Fault → Type 0
EndsWithoutBoth E D IsBad first last old new fault =
    StopsReadingBoth E D first last old new fault ⊎ RefusesBoth E D IsBad first last old new fault
