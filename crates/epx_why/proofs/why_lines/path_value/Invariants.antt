use Rattle.std.proofs.Common.{◌≡◌, ◌∷◌, map, take}
use Rattle.serde_json.specs.View.{view}
use Rattle.epx_why.specs.WhyLines.{path_data}
use Rattle.epx_why.specs.inner.NodeWalks.{id_at}
use Rattle.epx_why.proofs.why_lines.path_value.Given as goal

abbrev pub invariant-loop-node : goal.invariant-loop-node
invariant-loop-node l = map view l.values.items
    ≡ path_data (l.fn.start ∷ map (id_at l.graph) (take l.node-index l.nodes))
