use Rattle.std.proofs.Common.{map, subst}
use Rattle.epx_types.proofs.Common.{IsRising}
use Rattle.epx_linear.specs.declared.call_table.CallRow.{CallRow}
use Rattle.epx_linear.proofs.CallTableLemmas.{IsHistory-by_rows}
use Rattle.epx_linear.proofs.call_table.CallTable.of.Goals as goal

pub returns-clause-history : goal.returns-clause-history
returns-clause-history g c = IsHistory-by_rows c.args.calls.now c.in_ok-rows.rows.items
    c.in_ok-rows.ensures.rows
    (subst (λ l. IsRising (map (λ (r : CallRow). r.id) l)) c.deref.ensures.value
    (c.is_rising.ensures c.if-not-is_rising.false))
