use Rattle.std.proofs.Common.{rules}
use Rattle.epx_merge.specs.LogLines.{bytes_of}
use Rattle.epx_merge.specs.between.SourceReadings.{IsMerging}
use Rattle.epx_merge.proofs.MemoryLogLemmas.{Made-in_memory, IsRefusal-from_limits}
use Rattle.epx_merge.proofs.merged_sources.read_logs.Goals as goal

pub returns : goal.returns
returns g c =
    let logs = bytes_of c.args.logs.now in
    let ends = rw c.deref_mut.ensures.value at c.merge_sources.ensures in
    let all = Made-in_memory IsMerging logs c.merge_sources.new.sources
    (IsRefusal-from_limits logs) c.merge_sources.result
    (rw c.in_ok-sources.ensures at ends) in
    search (rules, all)
