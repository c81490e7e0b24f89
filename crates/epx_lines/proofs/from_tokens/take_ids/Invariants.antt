use Rattle.std.proofs.Common.{◌≤◌, length}
use Rattle.epx_lines.specs.DependencyList.{id_of}
use Rattle.epx_lines.proofs.TokenValueLemmas.{HasReadItems}
use Rattle.epx_lines.proofs.from_tokens.take_ids.Given as goal

abbrev pub invariant-loop-ids : goal.invariant-loop-ids
invariant-loop-ids l = record {
  taken : HasReadItems 1 id_of l.initial.reader l.ids.items l.reader;
  few : length l.ids.items ≤ 256;
}

abbrev pub decreases-loop-ids : goal.decreases-loop-ids
decreases-loop-ids l = length l.reader
