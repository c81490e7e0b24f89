use Rattle.std.proofs.Common.{slice_get, sym, ap, ◌∙◌, arith}
use Rattle.epx_types.proofs.Common.{ids_of}
use Rattle.epx_types.proofs.lists.ListPositionLemmas.{slice_get-map}
use Rattle.epx_committed.specs.declared.rows.Row.{Row}
use Rattle.epx_committed.proofs.MergedMapLemmas.{ids_of-instances_at, length-within_rows}
use Rattle.epx_committed.proofs.MergedMapLemmas.{slice_get-row}
use Rattle.epx_committed.proofs.merged.Merged.id_at.Goals as goal

pub index-requires : goal.index-requires
index-requires c =
    let rows = c.self.inside.rows in
    omega (
      arith,
      rows.ok.0,
      length-within_rows c.self.inside.lists.items rows.items c.self.invariant.0 c.args.self.now
          c.self.view_is c.args.position c.requires,
    )

pub returns : goal.returns
returns c =
    let lists = c.self.inside.lists.items in
    let rows = c.self.inside.rows.items in
    let row = slice_get-row lists rows c.self.invariant.0 c.args.self.now c.self.view_is
    c.args.position c.index.result.now c.requires c.index.ensures in
    ap (λ m. slice_get (ids_of m) c.args.position) (sym c.self.view_is)
    ∙ ap (λ l. slice_get l c.args.position) (ids_of-instances_at lists rows c.self.invariant.0)
    ∙ slice_get-map (λ (r : Row). r.id) rows c.args.position c.index.result.now row
