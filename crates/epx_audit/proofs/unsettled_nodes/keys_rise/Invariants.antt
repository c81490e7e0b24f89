use Rattle.epx_audit.specs.inner.UnsettledNodes.{TouchKeysRise}
use Rattle.epx_audit.proofs.unsettled_nodes.keys_rise.Given as goal

abbrev pub invariant-loop-index : goal.invariant-loop-index
invariant-loop-index l = TouchKeysRise l.touches l.index
