use Rattle.std.proofs.Common.{◌≡◌, ◌∙◌, [], List, Vec, refl, sym, subst}
use Rattle.epx_types.proofs.Common.{nil_from_length, Global}
use Rattle.epx_versions.specs.declared.read_line.ReadLine.{ReadLine}
use Rattle.epx_versions.specs.inner.BatchNotes.{IsNotedUpTo}
use Rattle.epx_versions.proofs.NotedBatchLemmas.{IsNotedUpTo-none, IsNotedUpTo-piece}
use Rattle.epx_versions.proofs.NotedBatchLemmas.{AreNotedLines-all}
use Rattle.epx_versions.proofs.version_notes.VersionNotes.note_batch.Goals as goal

pub loop-piece-init : goal.loop-piece-init
loop-piece-init c = λ lines noted given.
    let self = c.args.self.now in
    let cache = c.args.cache.now in
    let batch = c.args.batch.now in
    subst (λ (r : List (Vec ReadLine Global)). IsNotedUpTo self.seed cache lines batch 0 [] r self
    cache) (sym c.into_iter-piece-iterator.ensures.into_iter_gives.0)
    (IsNotedUpTo-none self.seed cache lines batch c.args.pieces.items self refl noted given)

pub loop-piece-preserved : goal.loop-piece-preserved
loop-piece-preserved c = λ lines noted given.
    let seed = c.args.self.now.seed in
    let known = c.args.cache.now in
    let batch = c.args.batch.now in
    let at = c.loop-piece.at in
    let self = c.loop-piece.self in
    let cache = c.loop-piece.cache in
    let rest : List (Vec ReadLine Global) = c.next.new.self.rest.items in
    let begun = subst (λ (r : List (Vec ReadLine Global)). IsNotedUpTo seed known lines batch at []
    r self cache) c.in-Some.ensures.steps.0 (c.loop-piece.invariant lines noted given) in
    c.in_ok-at.ensures seed known lines rest
    (IsNotedUpTo-piece seed known lines batch at c.in-Some.piece rest self cache begun)

pub returns : goal.returns
returns c = λ lines noted given.
    let rest = c.loop-piece.piece-iterator.rest in
    let none : rest.items ≡ [] =
    nil_from_length rest.items (sym rest.ok.0 ∙ c.in-None.ensures.steps.0) in
    let seed = c.args.self.now.seed in
    let known = c.args.cache.now in
    let batch = c.args.batch.now in
    let self = c.loop-piece.self in
    AreNotedLines-all seed known lines batch c.loop-piece.at self c.loop-piece.cache
    (subst (λ (r : List (Vec ReadLine Global)). IsNotedUpTo seed known lines batch c.loop-piece.at
    [] r self c.loop-piece.cache) none (c.loop-piece.invariant lines noted given))
