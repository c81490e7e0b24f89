use Rattle.std.proofs.Common.{ℕ, ◌<◌}
use Rattle.epx_ranking.specs.inner.NodeLists.{IsListedIfReady}
use Rattle.epx_ranking.proofs.check.node_list.first_unlisted.Given as goal

abbrev pub invariant-loop-node : goal.invariant-loop-node
invariant-loop-node l = (k : ℕ) → k < l.node → IsListedIfReady l.ready l.marks k
