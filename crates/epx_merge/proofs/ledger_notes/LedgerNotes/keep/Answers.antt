use Rattle.epx_merge.proofs.LedgerNoteLemmas.{AreReadUpTo-batch}
use Rattle.epx_merge.proofs.ledger_notes.LedgerNotes.keep.Goals as goal

pub returns : goal.returns
returns c = λ lines cut read drops beside.
    AreReadUpTo-batch lines c.args.self.now c.args.cache.now read cut c.args.batch.now
    c.cache_batch_copy.new.cache c.args.pieces.now.items drops beside c.cache_batch_copy.ensures
