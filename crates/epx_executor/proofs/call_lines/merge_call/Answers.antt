use Rattle.std.proofs.Common.{◌≡◌, ◌++◌, List, [], subst, ap₂}
use Rattle.epx_types.proofs.Common.{Placed}
use Rattle.epx_committed.specs.between.Ledgers.{IsLedgerOf}
use Rattle.epx_executor.specs.CallLines.{call_lines}
use Rattle.epx_executor.proofs.CallLineLemmas.{IsSortedByPlace-call}
use Rattle.epx_executor.proofs.call_lines.merge_call.Goals as goal

-- a ledger of no lines becomes one of the pending lines, and then of those that came too
pub returns : goal.returns
returns g c part is =
    let done = c.args.done.now in
    let came = c.args.came.items in
    let old = c.args.old.items in
    let new = c.in_ok-new.new.items in
    let all : old ++ new ≡ call_lines done part came =
    ap₂ (λ (xs ys : List Placed). xs ++ ys) is c.in_ok-new.ensures in
    let noted = c.in_ok-note-2.ensures old (c.in_ok-note.ensures [] c.for_lines-ledger.ensures) in
    c.close.ensures (call_lines done part came) (IsSortedByPlace-call done part came)
    (subst (λ (lines : List Placed). IsLedgerOf lines c.note-2.new.self) all noted)
