-- A ledger notes the pieces of batches.
use Rattle.std.proofs.Common.{◌≡◌, ◌++◌, List, [], Result, refl, sym, ap, subst, ◌∙◌, append-nil}
use Rattle.epx_types.specs.declared.fault.Fault.{Fault}
use Rattle.epx_types.specs.declared.fault.Why.{Why}
use Rattle.epx_lines.specs.declared.Line.{Line}
use Rattle.epx_committed.specs.between.Ledgers.{LedgerView, IsLedgerOf, NotesLines}
use Rattle.epx_merge.specs.declared.pieces.BadLine.{BadLine}
use Rattle.epx_merge.specs.declared.pieces.ReadPiece.{ReadPiece}
use Rattle.epx_merge.specs.between.LedgerNotes.{AreReadUpTo}
use Rattle.epx_merge.specs.LogLines.{MeaningAt, placed_among, bad_lines_among}
use Rattle.epx_merge.specs.between.ReadFaults.{IsReadFault}
use Rattle.epx_merge.specs.between.ReadPieces.{AreReadBeside, HasEntries}
use Rattle.epx_merge.specs.between.RedundantLines.{DropsCached, DropsRedundant, IsCacheOf}
use Rattle.epx_merge.specs.between.RedundantLines.{CachesSomeOf}
use Rattle.epx_merge.proofs.DropsCachedLemmas.{DropsCached-trans, DropsRedundant-cached}
use Rattle.epx_merge.proofs.DropsCachedLemmas.{IsCacheOf-more}
use Rattle.epx_merge.proofs.ReadFaultLemmas.{placed_among-append, bad_lines_among-append}
use Rattle.epx_merge.proofs.ReadFaultLemmas.{IsReadFault-after_clean}
use Rattle.epx_merge.proofs.ReadPieceLemmas.{AreRead-from_beside}
use Rattle.epx_merge.proofs.RedundantLineLemmas.{DropsRedundant-append, SameOutcome-kept}

-- ---- the pending pieces are noted

module _ (lines : List MeaningAt) (ledger : LedgerView) (cache : List (Result Line Why))
    (pieces : List (Result ReadPiece BadLine)) (h : AreReadUpTo lines ledger cache pieces) where
  abbrev kept : List MeaningAt
  kept = h.read ++ h.pending

  -- the first bad line of the pending lines is the first of all
  pub IsReadFault-pending : (f : Fault) → IsReadFault (bad_lines_among h.pending) f
      → IsReadFault (bad_lines_among lines) f
  IsReadFault-pending f bad =
      let same : h.read ++ (h.pending ++ []) ≡ kept = ap (λ l. h.read ++ l) (append-nil h.pending)
      in
      (SameOutcome-kept lines [] kept h.drops).fault f
      (IsReadFault-after_clean h.read h.pending [] kept f h.clean bad same)

  pub AreReadUpTo-noted : (ledger' : LedgerView) → bad_lines_among h.pending ≡ []
      → NotesLines (placed_among h.pending) ledger ledger' → AreReadUpTo lines ledger' cache []
  AreReadUpTo-noted ledger' clean noted =
      let all = sym (append-nil kept) in
      record {
        read = kept;
        pending = [];
        drops = subst (DropsRedundant lines []) all h.drops;
        clean = bad_lines_among-append h.read h.pending
            ∙ ap (λ l. l ++ bad_lines_among h.pending) h.clean ∙ clean;
        noted = subst (λ l. IsLedgerOf l ledger') (sym (placed_among-append h.read h.pending))
            (noted (placed_among h.read) h.noted);
        given = refl;
        cached = subst (λ l. IsCacheOf l cache) all h.cached;
      }

-- ---- no piece is pending

module _ (lines : List MeaningAt) (ledger : LedgerView) (cache : List (Result Line Why))
    (h : AreReadUpTo lines ledger cache []) where
  all_read : h.read ++ h.pending ≡ h.read
  all_read = (let none : h.pending ≡ [] = h.given in ap (λ l. h.read ++ l) none)
      ∙ append-nil h.read

  -- none of the lines is bad, and the ledger is that of all of them
  pub IsLedgerOf-at_end : (bad_lines_among lines ≡ []) × IsLedgerOf (placed_among lines) ledger
  IsLedgerOf-at_end =
      let same = SameOutcome-kept lines [] h.read
      (subst (DropsRedundant lines []) all_read h.drops) in
      (same.clean h.clean, same.ledger ledger h.noted)

  -- the batch is read
  pub AreReadUpTo-batch : (cut batch : List MeaningAt) (cache' : List (Result Line Why))
      (pieces : List (Result ReadPiece BadLine)) → DropsCached [] cut batch
      → AreReadBeside HasEntries cache batch pieces → CachesSomeOf batch cache cache'
      → AreReadUpTo (lines ++ cut) ledger cache' pieces
  AreReadUpTo-batch cut batch cache' pieces drops beside more =
      let given = AreRead-from_beside HasEntries cache batch pieces beside in
      let cached = subst (λ l. IsCacheOf l cache) all_read h.cached in
      let uncached = DropsCached-trans cache cut batch given.0 drops given.1 in
      record {
        read = h.read;
        pending = given.0;
        drops = DropsRedundant-append lines cut [] h.read (h.read ++ given.0)
            (subst (DropsRedundant lines []) all_read h.drops)
            (DropsRedundant-cached cache cut given.0 h.read cached uncached);
        clean = h.clean;
        noted = h.noted;
        given = given.2;
        cached = IsCacheOf-more cache h.read batch given.0 cached given.1 cache' more;
      }
