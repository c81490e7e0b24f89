use Rattle.std.proofs.Common.{◌≡◌, ◌↔◌, ◌≤◌, ℕ, length, get_or, false, IsTrue}
use Rattle.epx_components.specs.between.Partitions.{parts}
use Rattle.epx_components.proofs.MissingLemmas.{HasNodeIn}
use Rattle.epx_components.proofs.missing.find_missing.Given as goal

abbrev pub invariant-loop-node : goal.invariant-loop-node
invariant-loop-node l = record {
  len : length l.marks.items ≡ l.partition.count;
  from : l.graph.committed ≤ l.node;
  each : (c : ℕ) → IsTrue (get_or l.marks.items c false)
      ↔ HasNodeIn (parts l.partition) l.graph.committed l.node c;
}
