use Rattle.std.proofs.Common.{◌≡◌, List, Some, slice_get}
use Rattle.epx_types.proofs.Common.{IfOk-weaker}
use Rattle.epx_graph.proofs.Common.{IsGraphOf}
use Rattle.epx_why.specs.Needs.{AreNeedsOf}
use Rattle.epx_why.specs.inner.NodeNeeds.{AreNeedsIn}
use Rattle.epx_why.proofs.NodeNeedLemmas.{AreNeedsIn-equal, AreNeedsOf-node}
use Rattle.epx_why.proofs.why.needs_of.Goals as goal

pub returns : goal.returns
returns c =
    let g = c.args.graph.now in
    let ds = c.in_ok-distances.distances.items in
    IfOk-weaker c.needs_in.result
    (λ needs. AreNeedsIn g c.deref.result.now c.committed_len.result c.len.result needs.items)
    (λ needs. (m : List _) (x : _) → IsGraphOf m g → slice_get g.ids c.args.node ≡ Some x
    → AreNeedsOf m x needs.items)
    (λ needs are m x is at. AreNeedsOf-node m g is c.args.node x at ds needs.items c.requires.node
    c.in_ok-distances.ensures
    (AreNeedsIn-equal g _ _ _ _ _ _ needs.items c.deref.ensures.value c.committed_len.ensures
    c.len.ensures.len are))
    c.needs_in.ensures
