-- Laws of late calls, and of histories that keep real time.
use Rattle.std.specs.Prelude.{◌≡◌, ◌↔◌, ℕ, List, length, Option, Some, None, All, Contains}
use Rattle.std.specs.Prelude.{slice_get}
use Rattle.epx_types.specs.declared.id.Id.{Id}
use Rattle.epx_types.specs.declared.op.Op.{Op}
use Rattle.epx_types.specs.declared.reply.Reply.{Reply}
use Rattle.epx_types.specs.Contents.{Contents}
use Rattle.epx_types.specs.Execution.{execute}
use Rattle.epx_types.specs.Rearrangements.{IsRearrangement, commands_at}
use Rattle.epx_linear.specs.declared.client_call.ClientCall.{ClientCall}
use Rattle.epx_linear.specs.declared.call_answers.AnswerCheck.{AnswerCheck}
use Rattle.epx_linear.specs.declared.call_answers.AnswerCheck.TheVariants.{Same}
use Rattle.epx_linear.specs.ClientCalls.{calls_in}
use Rattle.epx_linear.specs.CallAnswers.{AreAnswerChecks}
use Rattle.epx_linear.specs.LateCalls.{NoneLate, AreFoundLate}
use Rattle.epx_linear.specs.RealTime.{KeepsRealTime, HasRealTimeOrder, IsLinear}

-- no call is late exactly if some order of the commands keeps real time, and the order of those
-- that conflict. There is a call or None for each command
abbrev pub NoneLateKeepsRealTime : Type 0
NoneLateKeepsRealTime = (commands : List (List Op)) (calls : List (Option ClientCall))
    → length calls ≡ length commands → NoneLate commands calls ↔ HasRealTimeOrder commands calls

-- if `found` is what is found late, and there is a call or None for each command, nothing is found
-- exactly if some order of the commands keeps real time, and the order of those that conflict
abbrev pub NoneFoundKeepsRealTime : Type 0
NoneFoundKeepsRealTime = (commands : List (List Op)) (calls : List (Option ClientCall))
    (found : List (Option Id)) → length calls ≡ length commands
    → AreFoundLate commands calls found
    → All (λ o. o ≡ None) found ↔ HasRealTimeOrder commands calls

-- if there is a command for each instance, all checks of the calls are `Same` and nothing is found
-- late exactly if the history is linear over these commands and replies
abbrev pub ChecksDecideLinear : Type 0
ChecksDecideLinear = (ids : List Id) (commands : List (List Op)) (replies : List Reply)
    (h : List ClientCall) (checks : List AnswerCheck) (late : List (Option Id))
    → length ids ≡ length commands → AreAnswerChecks ids replies h checks
    → AreFoundLate commands (calls_in h ids) late
    → All (λ o. o ≡ Same) checks × All (λ o. o ≡ None) late ↔ IsLinear ids commands replies h

-- in the order of `positions` the commands keep real time and the order of those that conflict.
-- Executed in it from the contents c, they leave what they leave in their own order, and each call
-- that returned with an answer has this as its reply
pub record IsSerialWitness (ids : List Id) (commands : List (List Op)) (c : Contents)
    (h : List ClientCall) (positions : List ℕ) : Type 0 where
  pub rearranged : IsRearrangement commands positions
  pub in_time : KeepsRealTime (calls_in h ids) positions
  pub final : (execute (commands_at commands positions) c).final ≡ (execute commands c).final
  pub answers : (a : ClientCall) (r : Reply) (t : ℕ) → Contains h a → a.returned ≡ Some t
      → a.answer ≡ Some r → (k i : ℕ) × (slice_get positions k ≡ Some i)
      × (slice_get ids i ≡ Some a.id)
      × (slice_get (execute (commands_at commands positions) c).replies k ≡ Some r)

-- if a history is linear over commands, one for each instance, and the replies that they have from
-- the contents c, some order of the commands keeps real time, and has the answers of the calls and
-- the same contents at the end (`IsSerialWitness`)
abbrev pub LinearHasWitness : Type 0
LinearHasWitness = (ids : List Id) (commands : List (List Op)) (c : Contents)
    (h : List ClientCall) → length ids ≡ length commands
    → IsLinear ids commands (execute commands c).replies h
    → (positions : List ℕ) × IsSerialWitness ids commands c h positions
