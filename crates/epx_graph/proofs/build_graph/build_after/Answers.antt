use Rattle.std.proofs.Common.{sym, ap}
use Rattle.epx_graph.specs.inner.Remainder.{rest_of}
use Rattle.epx_graph.proofs.BuildLemmas.{IsGraph-graph_over, IsGraphOf-graph_over}
use Rattle.epx_graph.proofs.build_graph.build_after.Goals as goal

pub new-requires-2 : goal.new-requires-2
new-requires-2 g c =
    let m = rest_of c.in_ok-left.left in
    let rows = rw c.deref.ensures.value at c.in_ok-rows.ensures in
    IsGraph-graph_over m c.in_ok-ids.ids.items c.in_ok-rows.rows c.in_ok-ids.ensures rows

pub returns : goal.returns
returns g c =
    let m = rest_of c.in_ok-left.left in
    let rows = rw c.deref.ensures.value at c.in_ok-rows.ensures in
    rw (c.new-2.ensures, sym (ap rest_of c.in_ok-left.ensures))
    (IsGraphOf-graph_over m c.in_ok-ids.ids.items c.in_ok-rows.rows c.in_ok-ids.ensures rows)
