use Rattle.std.proofs.Common.{take}
use Rattle.epx_versions.specs.between.ReadMeanings.{AreReadSo}
use Rattle.epx_versions.proofs.read_line.read_lines.Given as goal

abbrev pub invariant-loop-line : goal.invariant-loop-line
invariant-loop-line l = AreReadSo l.seed l.cache (take l.line-index l.lines) l.reads.items
