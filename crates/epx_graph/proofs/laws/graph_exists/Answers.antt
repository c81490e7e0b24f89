use Rattle.epx_graph.proofs.GraphExistenceLemmas.{IsGraphOf-exists}
use Rattle.epx_graph.proofs.laws.graph_exists.Goals as goal

pub returns : goal.returns
returns c = IsGraphOf-exists
