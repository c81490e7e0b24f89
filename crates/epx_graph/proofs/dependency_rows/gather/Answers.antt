use Rattle.std.proofs.Common.{sym, ap, ◌∙◌, append-nil}
use Rattle.epx_types.specs.declared.id.Id.{Id}
use Rattle.epx_rows.specs.between.OpenRows.{OpenRowView}
use Rattle.epx_graph.specs.declared.remainder.IdState.TheVariants as found
use Rattle.epx_graph.proofs.RemainderLemmas.{positions_in-take}
use Rattle.epx_graph.proofs.dependency_rows.gather.Goals as goal
use Rattle.epx_graph.proofs.dependency_rows.gather.Goals.{in-Left+in_ok-push-in-Left, in-Done}
use Rattle.epx_graph.proofs.dependency_rows.gather.Goals.{in-Missing+in_ok-push-in-Missing}

pub loop-id-preserved : goal.loop-id-preserved
loop-id-preserved c =
    let d : Id = record { replica = 0; number = 0 } in
    let row = c.loop-id.row.row in
    let missing = c.loop-id.missing.items in
    let old = c.loop-id.invariant in
    let next = positions_in-take c.args.left.now c.args.deps.now c.loop-id.id-index d
    c.loop-id-test.true in
    elim c.match-look_up.branch [
      | in-Left+in_ok-push-in-Left w ↦
          let pushed = w.row-is ∙ w.in_ok-push-in-Left.ensures in
          let more = next (found.Left w.in-Left.index) w.in-Left.ensures _ row
          c.match-look_up.row.row _ missing c.match-look_up.missing.items old.row old.missing
          (ap (λ (v : OpenRowView). v.row) pushed)
          (ap (λ v. v.items) w.missing-is ∙ sym (append-nil missing)) in
          record {
            rows = ap (λ (v : OpenRowView). v.rows) pushed ∙ old.rows;
            row = more.0;
            missing = more.1;
          }
      | in-Done w ↦
          let more = next found.Done w.in-Done.ensures _ row c.match-look_up.row.row _
          missing c.match-look_up.missing.items old.row old.missing
          (ap (λ (v : OpenRowView). v.row) w.row-is ∙ sym (append-nil row))
          (ap (λ v. v.items) w.missing-is ∙ sym (append-nil missing)) in
          record {
            rows = ap (λ (v : OpenRowView). v.rows) w.row-is ∙ old.rows;
            row = more.0;
            missing = more.1;
          }
      | in-Missing+in_ok-push-in-Missing w ↦
          let more = next found.Missing w.in-Missing.ensures _ row
          c.match-look_up.row.row _ missing c.match-look_up.missing.items old.row old.missing
          (ap (λ (v : OpenRowView). v.row) w.row-is ∙ sym (append-nil row))
          (ap (λ v. v.items) w.missing-is ∙ w.in_ok-push-in-Missing.ensures.items) in
          record {
            rows = ap (λ (v : OpenRowView). v.rows) w.row-is ∙ old.rows;
            row = more.0;
            missing = more.1;
          }
    ]
