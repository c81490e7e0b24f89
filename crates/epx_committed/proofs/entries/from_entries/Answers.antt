use Rattle.std.proofs.Common.{[]}
use Rattle.epx_committed.specs.between.EntryLines.{entry_lines}
use Rattle.epx_committed.proofs.EntryOrderLemmas.{IsSortedByPlace-entry_lines}
use Rattle.epx_committed.proofs.entries.from_entries.Goals as goal

-- a ledger of no lines becomes a ledger of the lines once they are noted
pub returns : goal.returns
returns c =
    let entries = c.args.entries.items in
    c.close.ensures (entry_lines entries) (IsSortedByPlace-entry_lines entries)
    (c.in_ok-note_each.ensures [] c.for_lines-ledger.ensures)
