use Rattle.std.proofs.Common.{◌≡◌}
use Rattle.epx_merge.specs.LogLines.{bytes_of}
use Rattle.epx_merge.proofs.MemoryLogLemmas.{Made-in_memory}
use Rattle.epx_compare.specs.ComparisonAnswers.{IsComparisonResult}
use Rattle.epx_compare.proofs.ComparisonRefusalLemmas.{IsComparisonRefusal-limits}
use Rattle.epx_compare.proofs.ComparisonResultLemmas.{HasAnswer-from_result, SaysFound-from_result}
use Rattle.epx_compare.proofs.comparison.compare.Goals as goal

pub returns-clause-answer : goal.returns-clause-answer
returns-clause-answer g c =
    let logs = bytes_of c.args.logs.now in
    let ends = rw c.deref_mut.ensures.value at c.compare_sources.ensures in
    HasAnswer-from_result logs c.compare_sources.result (Made-in_memory IsComparisonResult logs
    c.compare_sources.new.sources (IsComparisonRefusal-limits logs) c.compare_sources.result
    (rw c.in_ok-sources.ensures at ends))

pub returns-clause-found : goal.returns-clause-found
returns-clause-found g c =
    let logs = bytes_of c.args.logs.now in
    let ends = rw c.deref_mut.ensures.value at c.compare_sources.ensures in
    SaysFound-from_result logs c.compare_sources.result (Made-in_memory IsComparisonResult logs
    c.compare_sources.new.sources (IsComparisonRefusal-limits logs) c.compare_sources.result
    (rw c.in_ok-sources.ensures at ends))
