use Rattle.std.proofs.Common.{List}
use Rattle.epx_types.proofs.Common.{IfOk-weaker, Instance}
use Rattle.epx_graph.proofs.Common.{IsGraphOf}
use Rattle.epx_blockers.specs.Blockers.{AreBlockers}
use Rattle.epx_blockers.specs.inner.NodeBlockers.{AreNodeBlockers}
use Rattle.epx_blockers.proofs.NodeBlockerLemmas.{AreBlockers-from_nodes}
use Rattle.epx_blockers.proofs.blockers.find_blockers.Goals as goal

pub returns : goal.returns
returns c =
    let g = c.args.graph.now in
    IfOk-weaker c.list_blockers.result
    (λ bs. AreNodeBlockers g bs.items)
    (λ bs. (m : List Instance) → IsGraphOf m g → AreBlockers m bs.items)
    (λ bs are m is. AreBlockers-from_nodes m g is bs.items are)
    c.list_blockers.ensures
