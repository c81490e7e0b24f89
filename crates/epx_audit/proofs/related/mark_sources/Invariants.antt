use Rattle.std.proofs.Common.{◌≡◌, ◌<◌, All, map, take}
use Rattle.epx_components.specs.between.Partitions.{parts, component_of}
use Rattle.epx_audit.proofs.related.mark_sources.Given as goal

abbrev pub invariant-loop-node : goal.invariant-loop-node
invariant-loop-node l = record {
  same : l.components.items ≡ map (component_of (parts l.partition)) (take l.node-index l.sources);
  below : All (λ c. c < l.partition.count) l.components.items;
}
