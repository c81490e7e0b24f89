use Rattle.std.proofs.Common.{sym, subst, arith}
use Rattle.epx_committed.specs.between.Ledgers.{IsLedgerOf}
use Rattle.epx_committed.proofs.LineRowLemmas.{AreSortedRows, AreLineRows-moved, HasList-all}
use Rattle.epx_committed.proofs.LineRowLemmas.{ManyInstances-rows, FewInstances-rows, IsMerged-rows}
use Rattle.epx_committed.proofs.LedgerCloseLemmas.{IsDisagreementAt-least}
use Rattle.epx_committed.proofs.ledger.Ledger.close.Goals as goal

pub sort_rows-requires : goal.sort_rows-requires
sort_rows-requires c =
    let lists = c.self.inside.lists in
    HasList-all lists.items c.self.inside.firsts.rows.items (omega (arith, lists.ok.0))
    c.self.invariant.named

pub returns-then-len-gt-MAX_INSTANCES : goal.returns-then-len-gt-MAX_INSTANCES
returns-then-len-gt-MAX_INSTANCES c = λ lines order ledger.
    let rows = c.in_ok-rows.rows in
    let are : AreSortedRows c.self.inside.lists.items c.self.inside.firsts rows.items = record {
      firsts = c.self.invariant;
      moved = c.in_ok-rows.ensures.moved;
      sorted = c.in_ok-rows.ensures.sorted;
    } in
    ManyInstances-rows _ _ rows.items are lines
    (subst (IsLedgerOf lines) (sym c.self.view_is) ledger)
    (omega (arith, rows.ok.0, c.len.ensures, c.if-len-gt-MAX_INSTANCES.true))

pub new-requires-clause-rows : goal.new-requires-clause-rows
new-requires-clause-rows c =
    let rows = c.in_ok-rows.rows in
    let are : AreSortedRows c.self.inside.lists.items c.self.inside.firsts rows.items = record {
      firsts = c.self.invariant;
      moved = c.in_ok-rows.ensures.moved;
      sorted = c.in_ok-rows.ensures.sorted;
    } in
    AreLineRows-moved _ _ rows.items are

pub returns-in-Some : goal.returns-in-Some
returns-in-Some c = λ lines order ledger.
    let rows = c.in_ok-rows.rows in
    let are : AreSortedRows c.self.inside.lists.items c.self.inside.firsts rows.items = record {
      firsts = c.self.invariant;
      moved = c.in_ok-rows.ensures.moved;
      sorted = c.in_ok-rows.ensures.sorted;
    } in
    let h = subst (IsLedgerOf lines) (sym c.self.view_is) ledger in
    let least = rw c.in-Some.is at c.in_ok-least.ensures in (
      FewInstances-rows _ _ rows.items are lines h
          (omega (arith, rows.ok.0, c.len.ensures, c.if-len-gt-MAX_INSTANCES.false)),
      IsDisagreementAt-least lines _ h order c.in-Some.id c.in-Some.disagreement least.0 least.1,
    )

pub returns-in-None : goal.returns-in-None
returns-in-None c = λ lines order ledger.
    let rows = c.in_ok-rows.rows in
    let are : AreSortedRows c.self.inside.lists.items c.self.inside.firsts rows.items = record {
      firsts = c.self.invariant;
      moved = c.in_ok-rows.ensures.moved;
      sorted = c.in_ok-rows.ensures.sorted;
    } in
    rw c.new.ensures (IsMerged-rows _ _ rows.items are lines
    (subst (IsLedgerOf lines) (sym c.self.view_is) ledger)
    (omega (arith, rows.ok.0, c.len.ensures, c.if-len-gt-MAX_INSTANCES.false))
    (rw c.in-None.is at c.in_ok-least.ensures))
