use Rattle.std.proofs.Common.{◌∙◌, ◌++◌, [], length, ap, arith, refl, subst}
use Rattle.epx_merge.specs.between.LogReaders.{IsNoting}
use Rattle.epx_merge.specs.LogLines.{meanings_of}
use Rattle.epx_merge.proofs.GatheredLemmas.{EndsReading-all_gathered, AreGathered-none}
use Rattle.epx_merge.proofs.SourceReadingLemmas.{AreDeliveredUpTo-none, EndsReading-memory}
use Rattle.epx_merge.proofs.SourceReadingLemmas.{EndsReading-too_many}
use Rattle.epx_merge.proofs.noted_sources.note_sources.Goals as goal

pub returns-then-sources-gt-MAX_LOGS-clause-noted :
    goal.returns-then-sources-gt-MAX_LOGS-clause-noted
returns-then-sources-gt-MAX_LOGS-clause-noted g c =
    let D = g.S.Source.model in
    EndsReading-too_many D c.args.sources.now c.requires.well
    c.if-sources-gt-MAX_LOGS.true

pub returns-in_default-clause-noted : goal.returns-in_default-clause-noted
returns-in_default-clause-noted g c =
    let D = g.S.Source.model in
    let sources = c.args.sources.now in
    EndsReading-memory D sources sources 0 []
    (AreDeliveredUpTo-none D sources c.requires.well)
    (omega (arith, c.if-sources-gt-MAX_LOGS.false))

pub loop-sources-init : goal.loop-sources-init
loop-sources-init g c =
    let D = g.S.Source.model in
    let at = c.new-at.ensures in (
      refl,
      omega (arith, ap length c.new-here.ensures),
      (
        [],
        [],
        c.in-Ok.ensures,
        c.new-here.ensures,
        AreGathered-none D c.args.sources.now c.requires.well c.new-at.result at.0 at.1 at.2 at.3,
      ),
    )

pub returns-in-Err-clause-noted : goal.returns-in-Err-clause-noted
returns-in-Err-clause-noted g c =
    let h = c.loop-sources.invariant.2 in
    let lines = h.0 ++ h.1 in
    rw c.in-Err.is at
    (c.read_and_gather-read.ensures.lines c.args.sources.now lines h.4)

pub loop-sources-preserved : goal.loop-sources-preserved
loop-sources-preserved g c =
    let h = c.loop-sources.invariant.2 in
    let lines = h.0 ++ h.1 in
    let step = c.read_and_gather-read.ensures in
    let is = c.in_default-gathered.is in
    let next = rw is at (step.lines c.args.sources.now lines h.4) in (
      c.read_and_gather-read.auto.sources ∙ c.loop-sources.invariant.0,
      omega (arith, rw is at step.few, ap length c.swap.ensures.x_after),
      (
        lines,
        next.0,
        step.read h.0 h.1 h.2 h.3,
        rw c.swap.ensures.x_after next.1,
        next.2,
      ),
    )

pub returns-clause-noted : goal.returns-clause-noted
returns-clause-noted g c =
    let D = g.S.Source.model in
    let has_read = g.N.Notes.has_read in
    let h = c.loop-sources.invariant.2 in
    let sources = c.loop-sources.sources in
    let same = c.loop-sources.invariant.0 in
    let all = EndsReading-all_gathered D c.args.sources.now sources
    (omega (arith, same, c.if-sources-gt-MAX_LOGS.false)) c.loop-sources.at (h.0 ++ h.1) h.4
    (omega (arith, c.loop-sources-test.false, c.logs.ensures)) in
    let read = c.read_during-reader.ensures.lines h.0 h.1 h.2 h.3 in
    let refuses = g.N.Notes.refuses_bad_lines in
    let noted : IsNoting has_read refuses (meanings_of all.0) c.finish.result =
    subst (λ l. IsNoting has_read refuses l c.finish.result) all.2
    (c.finish.ensures (h.0 ++ h.1) read) in
    (all.0, all.1, noted)
