use Rattle.std.proofs.Common.{map, slice_get, sym, ap, ◌∙◌, arith}
use Rattle.epx_types.proofs.Common.{Instance}
use Rattle.epx_committed.proofs.MergedMapLemmas.{length-within_rows, slice_get-row, slice_get-seq}
use Rattle.epx_committed.proofs.merged.Merged.seq_at.Goals as goal

pub index-requires : goal.index-requires
index-requires c =
    let rows = c.self.inside.rows in
    omega (
      arith,
      rows.ok.0,
      length-within_rows c.self.inside.lists.items rows.items c.self.invariant.0 c.args.self.now
          c.self.view_is c.args.position c.requires,
    )

pub returns : goal.returns
returns c =
    let lists = c.self.inside.lists.items in
    let rows = c.self.inside.rows.items in
    let row = slice_get-row lists rows c.self.invariant.0 c.args.self.now c.self.view_is
    c.args.position c.index.result.now c.requires c.index.ensures in
    ap (λ m. slice_get (map (λ (i : Instance). i.seq) m) c.args.position) (sym c.self.view_is)
    ∙ slice_get-seq lists rows c.self.invariant.0 c.args.position c.index.result.now row
