use Rattle.std.proofs.Common.{◌≡◌, List, Some, slice_get, refl}
use Rattle.epx_types.proofs.Common.{IfOk-weaker}
use Rattle.epx_graph.proofs.Common.{IsGraphOf}
use Rattle.epx_why.specs.Needs.{AreNeeding}
use Rattle.epx_why.specs.inner.NodeNeeds.{AreNeedsIn}
use Rattle.epx_why.proofs.NodeNeedLemmas.{AreNeedsIn-equal, AreNeeding-node}
use Rattle.epx_why.proofs.why.find_needing.Goals as goal

pub returns : goal.returns
returns c =
    let g = c.args.graph.now in
    let ds = c.in_ok-distances.distances.items in
    IfOk-weaker c.needs_in.result
    (λ needs. AreNeedsIn g c.deref.result.now 0 c.committed_len.result needs.items)
    (λ needs. (m : List _) (x : _) → IsGraphOf m g → slice_get g.ids c.args.node ≡ Some x
    → AreNeeding m x needs.items)
    (λ needs are m x is at. AreNeeding-node m g is c.args.node x at ds needs.items
    c.requires.missing
    c.in_ok-distances.ensures
    (AreNeedsIn-equal g _ _ 0 0 _ _ needs.items c.deref.ensures.value refl c.committed_len.ensures
    are))
    c.needs_in.ensures
