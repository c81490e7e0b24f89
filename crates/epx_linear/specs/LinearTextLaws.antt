-- Laws of the answer about a history.
use Rattle.std.specs.Prelude.{◌≡◌, ◌↔◌, ℕ, List}
use Rattle.epx_types.specs.Instances.{Instance}
use Rattle.epx_types.specs.CommittedMap.{commands_in}
use Rattle.epx_types.specs.ExecutionOrder.{Ranked, IsExecutionOrder, ranked_ids}
use Rattle.epx_verify.specs.ListExecutions.{list_execution}
use Rattle.epx_linear.specs.declared.client_call.ClientCall.{ClientCall}
use Rattle.epx_linear.specs.ClientCalls.{IsHistory}
use Rattle.epx_linear.specs.LinearTexts.{linear_line, IsLinearText}
use Rattle.epx_linear.specs.RealTime.{IsLinear}

-- a map and a history have at most one answer
abbrev pub LinearTextIsUnique : Type 0
LinearTextIsUnique = (m : List Instance) (h : List ClientCall) (text other : List ℕ)
    → IsLinearText m h text → IsLinearText m h other → text ≡ other

-- the answer is the line `linear` alone exactly if the history is linear over the execution order
-- and its replies
abbrev pub LinearLineMeansLinear : Type 0
LinearLineMeansLinear = (m : List Instance) (h : List ClientCall) (order : List Ranked)
    (text : List ℕ) → IsHistory h → IsExecutionOrder m order → IsLinearText m h text
    → (text ≡ linear_line) ↔ IsLinear (ranked_ids order) (commands_in m (ranked_ids order))
    (list_execution m (ranked_ids order)).replies h
