use Rattle.std.proofs.Common.{Err, inl, subst, rules}
use Rattle.epx_merge.specs.between.SourceReadings.{EndsMerging, IsMerging}
use Rattle.epx_merge.proofs.SourceReadingLemmas.{EndsMaking-made}
use Rattle.epx_merge.proofs.merged_sources.merge_sources.Goals as goal

pub returns-in_err-noted : goal.returns-in_err-noted
returns-in_err-noted g c =
    let D = g.S.Source.model in
    let ended = rw c.in_err-noted.was at c.note_sources.ensures.noted in
    subst (EndsMerging D c.args.sources.now
    c.note_sources.new.sources) {x = Err c.in_err-noted.field-0.0} (search rules) (inl ended)

pub returns : goal.returns
returns g c =
    let D = g.S.Source.model in
    let read = rw c.in_ok-noted.was at c.note_sources.ensures.noted in
    EndsMaking-made D c.args.sources.now
    c.note_sources.new.sources IsMerging read.0 c.merge_noted.result read.1
    (c.merge_noted.ensures read.0 read.1.fit read.2)
