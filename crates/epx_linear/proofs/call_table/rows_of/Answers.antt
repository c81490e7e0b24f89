use Rattle.std.proofs.Common.{◌≡◌, ◌∙◌, ◌++◌, ◌∷◌, [], ◌+◌, get_or, ap, map, subst, sym, length}
use Rattle.epx_types.proofs.Common.{length_push}
use Rattle.epx_linear.specs.declared.call_table.CallRow.{CallRow}
use Rattle.epx_linear.proofs.CallRowLemmas.{AreNumbered, AreNumbered-push, map-push_row}
use Rattle.epx_linear.proofs.call_table.rows_of.Goals as goal

pub loop-at-preserved : goal.loop-at-preserved
loop-at-preserved c =
    let calls = c.args.calls.now in
    let at = c.loop-at.at in
    let rows = c.loop-at.rows.items in
    let is = c.loop-at.invariant in
    let call = c.index-calls-at.result in
    let row : CallRow = record { id = (get_or calls at call).id; at = at } in
    let pushed = c.in_ok-push.ensures.items in
    let longer : length c.push.new.self.items ≡ length (rows ++ row ∷ []) = ap length pushed in
    record {
      ids = ap (map (λ (r : CallRow). r.id)) pushed
          ∙ map-push_row calls at call c.loop-at-test.true rows is.ids;
      places = subst (AreNumbered (λ (r : CallRow). r.at)) (sym pushed)
          (AreNumbered-push (λ (r : CallRow). r.at) rows row is.places (sym is.len));
      len = longer ∙ length_push rows row ∙ ap (λ n. n + 1) is.len;
    }
