use Rattle.std.proofs.Common.{not, ap}
use Rattle.epx_executor.proofs.RemainderLemmas.{is_among-decides}
use Rattle.epx_executor.proofs.call_lines.is_left.Goals as goal

pub returns : goal.returns
returns c = ap not (is_among-decides c.contains.result c.args.done.now c.args.id c.contains.ensures)
