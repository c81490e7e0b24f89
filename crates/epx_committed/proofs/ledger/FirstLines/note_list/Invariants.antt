use Rattle.std.proofs.Common.{take}
use Rattle.epx_committed.specs.between.Ledgers.{NotesLines}
use Rattle.epx_committed.specs.inner.FirstLines.{AreFirstLines, Extends, ledger_view}
use Rattle.epx_committed.proofs.ledger.FirstLines.note_list.Given as goal

abbrev pub invariant-loop-at : goal.invariant-loop-at
invariant-loop-at l = record {
  firsts : AreFirstLines l.lists l.self;
  rows : Extends l.initial.self.rows.items l.self.rows.items;
  noted : NotesLines (take l.at l.lines.items) (ledger_view l.lists l.initial.self)
      (ledger_view l.lists l.self);
}
