use Rattle.epx_types.proofs.Common.{MatchResult-weaker}
use Rattle.epx_merge.proofs.LedgerNoteLemmas.{IsReadFault-pending, AreReadUpTo-noted}
use Rattle.epx_merge.proofs.ledger_notes.LedgerNotes.note.Goals as goal

pub returns : goal.returns
returns c = record {
  noted = λ lines cache h.
      let ledger = c.args.self.now in
      let pieces = c.args.pieces.items in
      MatchResult-weaker c.note_pieces.result (c.note_pieces.ensures h.pending h.given)
      (λ _ did. AreReadUpTo-noted lines ledger cache pieces h c.note_pieces.new.ledger did.0 did.1)
      (IsReadFault-pending lines ledger cache pieces h);
}
