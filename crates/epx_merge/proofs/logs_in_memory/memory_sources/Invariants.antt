use Rattle.std.proofs.Common.{◌≡◌, map, take}
use Rattle.epx_merge.proofs.logs_in_memory.memory_sources.Given as goal

abbrev pub invariant-loop-log : goal.invariant-loop-log
invariant-loop-log l = l.sources.items ≡ map (λ log. log.items) (take l.log-index l.logs)
