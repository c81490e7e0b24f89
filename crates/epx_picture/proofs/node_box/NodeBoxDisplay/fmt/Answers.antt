use Rattle.std.proofs.Common.{sym}
use Rattle.epx_picture.proofs.node_box.NodeBoxDisplay.fmt.Goals as goal

pub returns-clause-writes : goal.returns-clause-writes
returns-clause-writes g c = rw (sym c.style_of-style.ensures) c.write.ensures.writes
