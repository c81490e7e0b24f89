use Rattle.std.proofs.Common.{◌≡◌, ◌≢◌, ◌∙◌, AllPairs, ap, length, map, subst, sym}
use Rattle.epx_types.proofs.Common.{with_items_is, IsRising}
use Rattle.epx_types.specs.declared.id.Id.{Id}
use Rattle.epx_linear.specs.declared.call_table.CallRow.{CallRow}
use Rattle.epx_linear.specs.inner.CallRows.{AreCallRows}
use Rattle.epx_linear.specs.inner.HistoryReadings.{called_ids}
use Rattle.epx_linear.proofs.SpanLemmas.{AllPairs-permutation, AllPairs-call_ids}
use Rattle.epx_linear.proofs.CallRowLemmas.{AreCallRows-in_order, AreCallRows-permutation}
use Rattle.epx_linear.proofs.CallRowLemmas.{IsRising-sorted}
use Rattle.epx_linear.proofs.call_table.sorted_rows.Goals as goal

pub returns-clause-rows : goal.returns-clause-rows
returns-clause-rows g c =
    let called = called_ids c.args.calls.now in
    let rows = c.in_ok-rows.rows in
    let sort = c.par_sort_unstable.ensures in
    let sorted = c.par_sort_unstable.new.s in
    let read = c.deref_mut.ensures.value in
    let written = with_items_is rows sorted (sort.len ∙ (ap length read ∙ sym rows.ok.0)) in
    subst (AreCallRows called) (sym written)
    (AreCallRows-permutation called c.deref_mut.result.now sorted
    (subst (AreCallRows called) (sym read)
    (AreCallRows-in_order called rows.items c.in_ok-rows.ensures)) sort.permutation)

pub returns-clause-rising : goal.returns-clause-rising
returns-clause-rising g c history =
    let calls = c.args.calls.now in
    let rows = c.in_ok-rows.rows in
    let sort = c.par_sort_unstable.ensures in
    let sorted = c.par_sort_unstable.new.s in
    let read = c.deref_mut.ensures.value in
    let written = with_items_is rows sorted (sort.len ∙ (ap length read ∙ sym rows.ok.0)) in
    let named : map (λ (r : CallRow). r.id) c.deref_mut.result.now ≡ called_ids calls =
    ap (map (λ (r : CallRow). r.id)) read ∙ c.in_ok-rows.ensures.named in
    let apart = subst (AllPairs (λ (x : Id) (y : Id). x ≢ y)) (sym named)
    (AllPairs-call_ids calls history) in
    subst (λ l. IsRising (map (λ (r : CallRow). r.id) l)) (sym written)
    (IsRising-sorted sorted
    (AllPairs-permutation (λ (r : CallRow). r.id) c.deref_mut.result.now sorted apart
    sort.permutation)
    sort.sorted)
