-- The text of a trace of a committed map.
use Rattle.std.specs.Prelude.{◌≡◌, ℕ, Bool, List, map, flat_map}
use Rattle.std.specs.FinMap as contents
use Rattle.epx_types.specs.declared.id.Id.{Id}
use Rattle.epx_types.specs.Instances.{Instance}
use Rattle.epx_types.specs.CommittedMap.{instance_of, ops_or_empty}
use Rattle.epx_types.specs.ExecutionOrder.{Ranked, IsExecutionOrder, ranked_ids}
use Rattle.epx_trace.specs.Traces.{IdCommand, trace_of}
use Rattle.epx_trace.specs.TraceLines.{touch_line}

-- an instance and its command in the map
abbrev pub command_of : List Instance → Id → IdCommand
command_of m x = (x, ops_or_empty (instance_of m x))

-- the instances of an order, each with its command
abbrev pub ordered_commands : List Instance → List Ranked → List IdCommand
ordered_commands m order = map (command_of m) (ranked_ids order)

-- the lines of the key's trace, when the ready commands are executed one by one in execution order
-- from the empty store: all writes, and also the reads if `reads` is true
pub record IsTraceText (m : List Instance) (key : List ℕ) (reads : Bool) (text : List ℕ)
    : Type 0 where
  pub order : List Ranked
  pub ordered : IsExecutionOrder m order
  pub printed : text
      ≡ flat_map (touch_line reads) (trace_of (ordered_commands m order) contents.empty key)
