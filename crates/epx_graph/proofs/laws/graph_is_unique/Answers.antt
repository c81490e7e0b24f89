use Rattle.epx_graph.proofs.GraphUniquenessLemmas.{GraphIsUnique-holds}
use Rattle.epx_graph.proofs.laws.graph_is_unique.Goals as goal

pub returns : goal.returns
returns c = GraphIsUnique-holds
