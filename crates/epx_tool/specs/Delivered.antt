-- How a run ends, by what its sources delivered in it. The bytes of the sources need not be known
-- before the run.
use Rattle.std.specs.Prelude.{◌⊎◌, ℕ, List, Result, Ok}
use Rattle.epx_types.specs.declared.fault.Fault.{Fault}
use Rattle.epx_types.specs.Instances.{Instance}
use Rattle.epx_merge.specs.DeliveredLogs.{EachDelivers, StopsReading}
use Rattle.epx_merge.specs.Refusals.{IsRefusal}
use Rattle.epx_devices.specs.Models.{SourceModel}
use Rattle.epx_tool.specs.Answer.{Answers}

-- the logs that the sources delivered have an answer, and it was written as `Written` says
pub record WritesDelivered {S : Type 0} (D : SourceModel S)
    (Answer : List (List ℕ) → Result (List ℕ) Fault → Type 0) (old new : List S)
    (Written : List ℕ → Type 0) : Type 0 where
  pub logs : List (List ℕ)
  pub delivered : EachDelivers D old new logs
  pub text : List ℕ
  pub answer : Answer logs (Ok text)
  pub written : Written text

-- `WritesDelivered` where the answer is a text of the committed map, as `Is` says
abbrev pub AnswersDelivered : {S : Type 0} → SourceModel S → (List Instance → List ℕ → Type 0)
    → List S → List S → (List ℕ → Type 0) → Type 0
AnswersDelivered D Is = WritesDelivered D (Answers Is)

-- the sources delivered logs, and the fault is the refusal of these logs
pub record RefusesDelivered {S : Type 0} (D : SourceModel S)
    (Refuses : List (List ℕ) → Fault → Type 0) (old new : List S) (fault : Fault) : Type 0 where
  pub logs : List (List ℕ)
  pub delivered : EachDelivers D old new logs
  pub refusal : Refuses logs fault

-- a run ends with this fault: reading stopped with it, or it is the refusal of the delivered logs
abbrev pub EndsRefused : {S : Type 0} → SourceModel S → (List (List ℕ) → Fault → Type 0)
    → List S → List S → Fault → Type 0
EndsRefused D Refuses old new fault =
    StopsReading D old new fault ⊎ RefusesDelivered D Refuses old new fault

-- a run whose answer is a text of the committed map ends with this fault: reading stopped with it,
-- or it is the refusal of the delivered logs
abbrev pub EndsWithout : {S : Type 0} → SourceModel S → List S → List S → Fault → Type 0
EndsWithout D = EndsRefused D IsRefusal
