use Rattle.std.proofs.Common.{◌≡◌, ◌++◌, map, drop}
use Rattle.epx_types.proofs.Common.{execute}
use Rattle.epx_trace.specs.Traces.{trace_of}
use Rattle.epx_trace.proofs.execution.trace_of.Given as goal

abbrev pub invariant-loop-command : goal.invariant-loop-command
invariant-loop-command l = record {
  noted : l.noted.items
      ++ trace_of (map (λ c. (c.id, c.ops.now)) (drop l.command-index l.commands)) l.store l.key
      ≡ trace_of (map (λ c. (c.id, c.ops.now)) l.commands) l.initial.store l.key;
  after : (execute (map (λ c. c.ops.now) (drop l.command-index l.commands)) l.store).final
      ≡ (execute (map (λ c. c.ops.now) l.commands) l.initial.store).final;
}
