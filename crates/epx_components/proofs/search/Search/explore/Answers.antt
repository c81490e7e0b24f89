use Rattle.std.proofs.Common.{◌+◌, length, arith, refl}
use Rattle.epx_graph.proofs.Common.{edges_of}
use Rattle.epx_components.proofs.RootLemmas.{IsSearch-root}
use Rattle.epx_components.specs.inner.SearchStates.{state}
use Rattle.epx_components.proofs.search.Search.explore.Goals as goal

pub loop-self-init : goal.loop-self-init
loop-self-init c =
    IsSearch-root (edges_of c.args.graph.now) (length c.args.graph.now.ids) c.args.root
    (state c.args.self.now) (state c.arrive.new.self) _ refl c.requires.search c.requires.root
    (omega (arith, c.args.self.now.starts.ok.0)) c.in_ok-arrive.ensures.arrives

pub loop-self-preserved : goal.loop-self-preserved
loop-self-preserved c = c.in_ok-step.ensures.keeps (c.args.root + 1) c.loop-self.invariant
