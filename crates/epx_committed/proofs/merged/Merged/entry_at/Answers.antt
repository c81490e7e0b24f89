use Rattle.std.proofs.Common.{slice_get, Some, sym, ap, subst, ◌∙◌, arith}
use Rattle.epx_committed.specs.LineRows.{line_at, NamesItsLine}
use Rattle.epx_committed.proofs.MergedMapLemmas.{length-within_rows, NamesItsLine-at_index}
use Rattle.epx_committed.proofs.MergedMapLemmas.{slice_get-entry}
use Rattle.epx_committed.proofs.merged.Merged.entry_at.Goals as goal

pub index-requires : goal.index-requires
index-requires c =
    let rows = c.self.inside.rows in
    omega (
      arith,
      rows.ok.0,
      length-within_rows c.self.inside.lists.items rows.items c.self.invariant.0 c.args.self.now
          c.self.view_is c.args.position c.requires,
    )

pub line_in-requires : goal.line_in-requires
line_in-requires c =
    let row = c.index.result.now in
    subst (λ l. NamesItsLine l row) (sym c.deref.ensures.value)
    (NamesItsLine-at_index c.self.inside.lists.items c.self.inside.rows.items c.self.invariant.0
    c.args.self.now c.self.view_is c.args.position row c.requires c.index.ensures)

pub returns : goal.returns
returns c =
    let row = c.index.result.now in
    let line = ap (λ l. line_at l row) (sym c.deref.ensures.value) ∙ c.line_in.ensures in
    ap (λ m. slice_get m c.args.position) (sym c.self.view_is)
    ∙ slice_get-entry c.self.inside.lists.items c.self.inside.rows.items c.self.invariant.0
    c.args.self.now c.self.view_is c.args.position row c.requires c.index.ensures
    c.line_in.result.now line ∙ ap Some (sym c.entry.ensures)
