use Rattle.std.proofs.Common.{◌≡◌, ℕ, length, get_or}
use Rattle.epx_graph.proofs.Common.{edges_of}
use Rattle.epx_components.specs.between.Collections.{AreCollected}
use Rattle.epx_components.specs.between.Partitions.{parts}
use Rattle.epx_components.proofs.bottom_up.collect_bottom_up.Given as goal

abbrev pub invariant-loop-node : goal.invariant-loop-node
invariant-loop-node g l = record {
  len : length l.values.items ≡ l.partition.count;
  collected : (t : ℕ) → AreCollected (edges_of l.graph) (parts l.partition) l.node-index
      (λ c. g.C.Collector.has t (get_or l.fn.first.items c g.C.Collector.none))
      (λ c. g.C.Collector.gives l.collector c (get_or l.values.items c g.C.Collector.none) t)
      (λ c. g.C.Collector.has t (get_or l.values.items c g.C.Collector.none));
}
