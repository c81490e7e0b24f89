use Rattle.std.proofs.Common.{◌∷◌, ◌∙◌, ap, sym, subst}
use Rattle.epx_types.proofs.Common.{nil_from_length}
use Rattle.epx_committed.specs.between.Ledgers.{NotesLines}
use Rattle.epx_merge.specs.between.ReadPieces.{AreRead, HasEntries}
use Rattle.epx_committed.proofs.LedgerLemmas.{NotesLines-nil, NotesLines-append}
use Rattle.epx_merge.proofs.ReadPieceLemmas.{IsGathering-none, IsGathering-more}
use Rattle.epx_merge.proofs.ReadPieceLemmas.{IsFirstBad-next_piece}
use Rattle.epx_merge.proofs.ReadPieceLemmas.{bad_lines_among-gathered}
use Rattle.epx_merge.proofs.pieces.note_pieces.Goals as goal

pub loop-piece-init : goal.loop-piece-init
loop-piece-init c = λ lines all.
    IsGathering-none _ lines _ _ (NotesLines-nil c.args.ledger.now)
    (subst (AreRead HasEntries lines)
    (sym c.into_iter-piece-iterator.ensures.into_iter_gives.0) all)

pub loop-piece-preserved : goal.loop-piece-preserved
loop-piece-preserved c = λ lines all.
    IsGathering-more _ lines _ _ _ _ c.in-Ok.piece
    (c.in-Some.ensures.steps.0 ∙ ap (λ p. p ∷ c.next.new.self.rest.items) c.in-Ok.is)
    (λ xs ys before is. NotesLines-append xs ys c.args.ledger.now c.loop-piece.ledger
    c.note.new.self before
    (subst (λ es. NotesLines es c.loop-piece.ledger c.note.new.self) is
    c.in_ok-note-in-Ok.ensures))
    (c.loop-piece.invariant lines all)

pub returns-in-Err : goal.returns-in-Err
returns-in-Err c = λ lines all.
    IsFirstBad-next_piece _ lines _ _ _ c.in-Err.field-0
    (c.in-Some.ensures.steps.0 ∙ ap (λ p. p ∷ c.next.new.self.rest.items) c.in-Err.is)
    (c.loop-piece.invariant lines all)

pub returns : goal.returns
returns c = λ lines all.
    bad_lines_among-gathered _ lines _ _
    (nil_from_length c.loop-piece.piece-iterator.rest.items
    (sym c.loop-piece.piece-iterator.rest.ok.0 ∙ c.in-None.ensures.steps.0))
    (c.loop-piece.invariant lines all)
