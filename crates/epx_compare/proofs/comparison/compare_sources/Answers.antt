use Rattle.std.proofs.Common.{Err, inl, inr, length, subst, rules}
use Rattle.epx_merge.specs.LogLines.{meanings_of}
use Rattle.epx_merge.specs.between.SourceReadings.{EndsMaking}
use Rattle.epx_merge.proofs.SourceReadingLemmas.{EndsMaking-made}
use Rattle.epx_compare.specs.ComparisonAnswers.{IsComparisonResult}
use Rattle.epx_compare.specs.inner.NotedLogs.{AreNotedLogs}
use Rattle.epx_compare.proofs.ComparisonRefusalLemmas.{IsComparisonRefusal-read_fault}
use Rattle.epx_compare.proofs.comparison.compare_sources.Goals as goal

pub returns-in_err-noted : goal.returns-in_err-noted
returns-in_err-noted g c =
    let D = g.S.Source.model in
    let ended = rw c.in_err-noted.was at c.note_sources.ensures.noted in
    subst (EndsMaking D IsComparisonResult c.args.sources.now
    c.note_sources.new.sources) {x = Err c.in_err-noted.field-0.0} (search rules) (inl ended)

pub returns-in_err-notes : goal.returns-in_err-notes
returns-in_err-notes g c =
    let D = g.S.Source.model in
    let read = rw c.in_ok-noted.was at c.note_sources.ensures.noted in
    let fault = c.in_err-notes.field-0.0 in
    let refused = rw c.in_err-notes.was at read.2 in
    subst (EndsMaking D IsComparisonResult c.args.sources.now
    c.note_sources.new.sources) {x = Err fault} (search rules)
    (inr (read.0, read.1, IsComparisonRefusal-read_fault read.0 fault refused))

pub compare_noted-requires : goal.compare_noted-requires
compare_noted-requires g c =
    let read = rw c.in_ok-noted.was at c.note_sources.ensures.noted in
    let noted = rw c.in_ok-notes.was at read.2 in
    let is : AreNotedLogs read.0 (length c.args.sources.now) c.into_noted.result = record {
      fit = read.1.fit;
      as_many = read.1.delivered.as_many;
      rows = c.into_noted.ensures (meanings_of read.0) noted.0 noted.1;
    } in
    (read.0, is)

pub returns : goal.returns
returns g c =
    let D = g.S.Source.model in
    let read = rw c.in_ok-noted.was at c.note_sources.ensures.noted in
    let noted = rw c.in_ok-notes.was at read.2 in
    let is : AreNotedLogs read.0 (length c.args.sources.now) c.into_noted.result = record {
      fit = read.1.fit;
      as_many = read.1.delivered.as_many;
      rows = c.into_noted.ensures (meanings_of read.0) noted.0 noted.1;
    } in
    EndsMaking-made D c.args.sources.now c.note_sources.new.sources IsComparisonResult read.0
    c.compare_noted.result read.1 (c.compare_noted.ensures read.0 is)
