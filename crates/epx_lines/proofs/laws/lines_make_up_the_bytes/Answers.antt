use Rattle.epx_lines.proofs.LineLemmas.{AreLinesOf-lines_of}
use Rattle.epx_lines.proofs.laws.lines_make_up_the_bytes.Goals as goal

pub returns : goal.returns
returns c = AreLinesOf-lines_of
