-- Histories for which some serial execution keeps real time.
use Rattle.std.specs.Prelude.{◌≡◌, ℕ, List, Option, Some, Contains, slice_get}
use Rattle.epx_types.specs.declared.id.Id.{Id}
use Rattle.epx_types.specs.declared.op.Op.{Op}
use Rattle.epx_types.specs.declared.reply.Reply.{Reply}
use Rattle.epx_types.specs.LawfulOrders.{Before}
use Rattle.epx_types.specs.Rearrangements.{IsRearrangement}
use Rattle.epx_linear.specs.declared.client_call.ClientCall.{ClientCall}
use Rattle.epx_linear.specs.ClientCalls.{calls_in, HasCall, ReturnsBefore}

-- in the order of `positions`, each call comes before all calls that were invoked after it had
-- returned
abbrev pub KeepsRealTime : List (Option ClientCall) → List ℕ → Type 0
KeepsRealTime calls positions = (j i : ℕ) (a b : ClientCall) → HasCall calls j a
    → HasCall calls i b → ReturnsBefore a b → Before positions j i

-- some rearrangement that keeps the order of commands that conflict keeps real time
abbrev pub HasRealTimeOrder : List (List Op) → List (Option ClientCall) → Type 0
HasRealTimeOrder commands calls = (positions : List ℕ) × IsRearrangement commands positions
    × KeepsRealTime calls positions

-- each call that returned is executed, each answer of an executed call is the reply of its
-- instance, and some order of the commands keeps real time, and the order of those that conflict
pub record IsLinear (ids : List Id) (commands : List (List Op)) (replies : List Reply)
    (h : List ClientCall) : Type 0 where
  pub executed : (a : ClientCall) (t : ℕ) → Contains h a → a.returned ≡ Some t → Contains ids a.id
  pub answers : (a : ClientCall) (r : Reply) (i : ℕ) → Contains h a → a.answer ≡ Some r
      → slice_get ids i ≡ Some a.id → slice_get replies i ≡ Some r
  pub real_time : HasRealTimeOrder commands (calls_in h ids)
