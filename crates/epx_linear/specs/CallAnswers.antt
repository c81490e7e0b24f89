-- The answers that clients got, against the replies of an execution.
use Rattle.std.specs.Prelude.{◌≡◌, ◌≢◌, ℕ, List, length, Some, Contains, slice_get}
use Rattle.epx_types.specs.declared.id.Id.{Id}
use Rattle.epx_types.specs.declared.reply.Reply.{Reply}
use Rattle.epx_linear.specs.declared.client_call.ClientCall.{ClientCall}
use Rattle.epx_linear.specs.declared.call_answers.AnswerCheck.{AnswerCheck}
use Rattle.epx_linear.specs.declared.call_answers.AnswerCheck.TheVariants.{Same, Lost, Other}

-- the check of call c over the instances `ids`, executed with `replies`. `Same`: it is executed if
-- it returned, and its answer, if it has one and is executed, is its reply. `Lost`: it returned and
-- is not executed. `Other`: it is executed, and its answer is not its reply
abbrev pub IsAnswerCheck : List Id → List Reply → ClientCall → AnswerCheck → Type 0
IsAnswerCheck ids replies c Same = ((t : ℕ) → c.returned ≡ Some t → Contains ids c.id)
    × ((r : Reply) (i : ℕ) → c.answer ≡ Some r → slice_get ids i ≡ Some c.id
    → slice_get replies i ≡ Some r)
IsAnswerCheck ids replies c Lost = ((t : ℕ) × (c.returned ≡ Some t)) × (¬ Contains ids c.id)
IsAnswerCheck ids replies c Other = (answer reply : Reply) × (i : ℕ) × (c.answer ≡ Some answer)
    × (slice_get ids i ≡ Some c.id) × (slice_get replies i ≡ Some reply) × (answer ≢ reply)

-- `found` has a check for each call of the history, in the order of the calls (`IsAnswerCheck`)
pub record AreAnswerChecks (ids : List Id) (replies : List Reply) (h : List ClientCall)
    (found : List AnswerCheck) : Type 0 where
  pub whole : length found ≡ length h
  pub each : (k : ℕ) (c : ClientCall) (o : AnswerCheck) → slice_get h k ≡ Some c
      → slice_get found k ≡ Some o → IsAnswerCheck ids replies c o
