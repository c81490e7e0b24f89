use Rattle.epx_lines.proofs.LineLemmas.{AreLinesOf-is_unique}
use Rattle.epx_lines.proofs.laws.lines_are_one.Goals as goal

pub returns : goal.returns
returns c = AreLinesOf-is_unique
