use Rattle.std.proofs.Common.{◌≡◌, ◌∙◌, ◌++◌, [], List, sym, subst}
use Rattle.epx_types.proofs.Common.{nil_from_length}
use Rattle.epx_merge.specs.LogLines.{MeaningAt}
use Rattle.epx_versions.specs.declared.read_line.ReadLine.{ReadLine}
use Rattle.epx_versions.specs.inner.BatchNotes.{IsNotedUpTo}
use Rattle.epx_versions.proofs.NotedBatchLemmas.{slice_get-batch_line, IsNotedUpTo-line}
use Rattle.epx_versions.proofs.NotedBatchLemmas.{meaning_in-line}
use Rattle.epx_versions.proofs.version_notes.VersionNotes.note_piece.Goals as goal

pub loop-read-init : goal.loop-read-init
loop-read-init c = λ seed known lines pieces h.
    subst (λ (r : List ReadLine). IsNotedUpTo seed known lines c.args.batch.now c.args.start r
    pieces c.args.self.now c.args.cache.now)
    (sym c.into_iter-read-iterator.ensures.into_iter_gives.0) h

pub returns-in_default : goal.returns-in_default
returns-in_default c = λ seed known lines pieces h.
    let before = c.loop-read.invariant seed known lines pieces h in
    let here = subst (λ (r : List ReadLine). IsNotedUpTo seed known lines c.args.batch.now
    c.loop-read.at r pieces c.loop-read.self c.loop-read.cache) c.in-Some.ensures.steps.0 before in
    absurd (slice_get-batch_line seed known lines c.args.batch.now c.loop-read.at c.in-Some.read
    c.next.new.self.rest.items pieces c.loop-read.self c.loop-read.cache here c.in_default.ensures)

pub loop-read-preserved : goal.loop-read-preserved
loop-read-preserved c = λ seed known lines pieces h.
    let batch = c.args.batch.now in
    let at = c.loop-read.at in
    let read : ReadLine = c.in-Some.read in
    let reads : List ReadLine = c.next.new.self.rest.items in
    let self = c.loop-read.self in
    let cache = c.loop-read.cache in
    let before = c.loop-read.invariant seed known lines pieces h in
    let here = subst (λ (r : List ReadLine). IsNotedUpTo seed known lines batch at r pieces self
    cache) c.in-Some.ensures.steps.0 before in
    let line : MeaningAt = c.in-Some-line_at.line in
    let found = c.in-Some-line_at.ensures in
    let said =
    meaning_in-line seed known lines batch at read reads pieces self cache here line found.0
    in
    let did = c.in_ok-note_line.ensures in
    IsNotedUpTo-line seed known lines batch at read reads pieces self cache here line found.0
    c.in-Some-line_at.next found.1 c.note_line.new.self c.note_line.new.cache
    (did.noted (lines ++ here.done) here.noted said) did.seed did.grows

pub returns : goal.returns
returns c = λ seed known lines pieces h.
    let rest = c.loop-read.read-iterator.rest in
    let none : rest.items ≡ [] =
    nil_from_length rest.items (sym rest.ok.0 ∙ c.in-None.ensures.steps.0) in
    subst (λ (r : List ReadLine). IsNotedUpTo seed known lines c.args.batch.now c.loop-read.at r
    pieces c.loop-read.self c.loop-read.cache) none
    (c.loop-read.invariant seed known lines pieces h)
