use Rattle.std.proofs.Common.{[], List, Result, rules}
use Rattle.epx_types.specs.declared.fault.Why.{Why}
use Rattle.epx_lines.specs.declared.Line.{Line}
use Rattle.epx_merge.specs.between.LedgerNotes.{AreReadUpTo}
use Rattle.epx_merge.specs.LogLines.{meanings_of, placed_of, bad_lines_of}
use Rattle.epx_merge.specs.between.ReadFaults.{IsReadFault}
use Rattle.epx_merge.proofs.PlaceOrderLemmas.{IsSortedByPlace-placed_of}
use Rattle.epx_merge.proofs.AnswerLemmas.{MatchResult-accepted, IsRefusal-from_read_fault}
use Rattle.epx_merge.proofs.LedgerNoteLemmas.{IsLedgerOf-at_end}
use Rattle.epx_merge.proofs.merged_sources.merge_noted.Goals as goal

pub returns-in_err-noted : goal.returns-in_err-noted
returns-in_err-noted c = λ logs fits read.
    let fault = c.in_err-noted.field-0.0 in
    let bad : IsReadFault (bad_lines_of logs) fault = search (rules, read) in
    let refused = IsRefusal-from_read_fault logs fits fault bad in
    search (rules, refused)

pub returns : goal.returns
returns c = λ logs fits read.
    let ledger = c.in_ok-noted.field-0 in
    let noted : (cache : List (Result Line Why)) × AreReadUpTo (meanings_of logs) ledger cache [] =
    search (rules, read) in
    let whole = IsLedgerOf-at_end (meanings_of logs) ledger noted.0 noted.1 in
    MatchResult-accepted logs (fits, whole.0) c.close.result
    (c.close.ensures (placed_of logs) (IsSortedByPlace-placed_of logs) whole.1)
