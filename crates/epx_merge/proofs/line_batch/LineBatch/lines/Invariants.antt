use Rattle.std.proofs.Common.{◌≡◌, map, take}
use Rattle.epx_merge.proofs.LineBatchLemmas.{line_at}
use Rattle.epx_merge.proofs.line_batch.LineBatch.lines.Given as goal

abbrev pub invariant-loop-span : goal.invariant-loop-span
invariant-loop-span l =
    l.lines.items ≡ map (line_at l.self-inside.bytes.items) (take l.span-index l.span-items)
