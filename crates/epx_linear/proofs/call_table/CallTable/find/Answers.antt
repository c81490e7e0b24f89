use Rattle.std.proofs.Common.{◌∙◌, ◌<◌, Contains, Some, ap, arith, length, map, subst, sym}
use Rattle.epx_types.proofs.Common.{slice_get-get_or, Contains-slice_get, id_eq-Decides}
use Rattle.epx_linear.specs.declared.call_table.CallRow.{CallRow}
use Rattle.epx_linear.specs.inner.CallRows.{AreCallRows}
use Rattle.epx_linear.proofs.CallTableLemmas.{id_position-row, id_position-no_row}
use Rattle.epx_linear.proofs.call_table.CallTable.find.Goals as goal

pub returns-then-eq : goal.returns-then-eq
returns-then-eq c ids are =
    let rows = c.self.inside.rows in
    let place = c.in-Some.place in
    let row = c.index.result.now in
    let within : place < length rows.items =
    omega (arith, c.if-place-len.true, c.len.ensures, rows.ok) in
    id_position-row ids rows.items (subst (AreCallRows ids) (sym c.self.view_is) are)
    c.self.invariant
    c.args.id row
    (Contains-slice_get rows.items place row
    (slice_get-get_or rows.items place row within ∙ ap Some (sym c.index.ensures)))
    ((id_eq-Decides row.id c.args.id).0 (sym c.eq.ensures ∙ c.if-eq.true))

pub returns-in-Some-find_row : goal.returns-in-Some-find_row
returns-in-Some-find_row c ids are =
    let rows = c.self.inside.rows.items in
    let row = c.in-Some-find_row.row in
    id_position-row ids rows (subst (AreCallRows ids) (sym c.self.view_is) are) c.self.invariant
    c.args.id row
    (subst (λ (l : _). Contains l row) c.deref.ensures.value c.in-Some-find_row.ensures.0)
    c.in-Some-find_row.ensures.1

pub returns-in-None : goal.returns-in-None
returns-in-None c ids are =
    let rows = c.self.inside.rows.items in
    id_position-no_row ids rows (subst (AreCallRows ids) (sym c.self.view_is) are) c.self.invariant
    c.args.id
    (subst (λ (l : _). ¬ Contains (map (λ (r : CallRow). r.id) l) c.args.id)
    c.deref.ensures.value c.in-None.ensures)
