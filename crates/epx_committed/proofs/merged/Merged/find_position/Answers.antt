use Rattle.std.proofs.Common.{map, sym, ap, subst, ◌∙◌}
use Rattle.epx_types.proofs.Common.{slice_get_read, IsRising, ids_of, position_of, id_eq-Decides}
use Rattle.epx_committed.specs.declared.rows.Row.{Row}
use Rattle.epx_committed.proofs.MergedMapLemmas.{IsRising-instances_at, position_of-row}
use Rattle.epx_committed.proofs.MergedMapLemmas.{position_of-search, position_of-row_id}
use Rattle.epx_committed.proofs.merged.Merged.find_position.Goals as goal

pub returns-in-Some-clause-position : goal.returns-in-Some-clause-position
returns-in-Some-clause-position c =
    let rows = c.self.inside.rows.items in
    sym (position_of-row_id c.self.inside.lists.items rows c.self.invariant.0 c.in-Some.position
    c.args.id (c.in-Some.ensures (map (λ (r : Row). r.id) rows) c.self.invariant.1))
    ∙ ap (λ m. position_of m c.args.id) c.self.view_is

pub returns-in-Some-clause-rising : goal.returns-in-Some-clause-rising
returns-in-Some-clause-rising c = subst (λ m. IsRising (ids_of m)) c.self.view_is
    (IsRising-instances_at c.self.inside.lists.items c.self.inside.rows.items c.self.invariant.0)

pub returns-then-eq-clause-position : goal.returns-then-eq-clause-position
returns-then-eq-clause-position c =
    let same =
    (id_eq-Decides c.index.result.now.id c.args.id).0 (sym c.eq.ensures ∙ c.if-eq.true) in
    let rows = c.self.inside.rows in
    let k = c.in-Some-hint.position in
    let row = slice_get_read rows.items c.len.result k c.index.result.now
    (c.len.ensures ∙ rows.ok.0) c.if-position-len.true c.index.ensures in
    sym (position_of-row c.self.inside.lists.items rows.items c.self.invariant.0 k
    c.index.result.now c.args.id row same)
    ∙ ap (λ m. position_of m c.args.id) c.self.view_is

pub returns-then-eq-clause-rising : goal.returns-then-eq-clause-rising
returns-then-eq-clause-rising c = subst (λ m. IsRising (ids_of m)) c.self.view_is
    (IsRising-instances_at c.self.inside.lists.items c.self.inside.rows.items c.self.invariant.0)

pub returns-clause-position : goal.returns-clause-position
returns-clause-position c =
    position_of-search c.self.inside.lists.items c.self.inside.rows.items c.self.invariant.0
    c.args.id
    c.find_row.result (rw (← c.deref.ensures.value) c.find_row.ensures)
    ∙ ap (λ m. position_of m c.args.id) c.self.view_is

pub returns-clause-rising : goal.returns-clause-rising
returns-clause-rising c = subst (λ m. IsRising (ids_of m)) c.self.view_is
    (IsRising-instances_at c.self.inside.lists.items c.self.inside.rows.items c.self.invariant.0)
