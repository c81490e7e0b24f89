use Rattle.std.proofs.Common.{◌∙◌}
use Rattle.epx_types.proofs.Common.{IfOk-weaker}
use Rattle.epx_linear.proofs.LostCallLemmas.{lost_ids-by_marks, AreMarked-is_among}
use Rattle.epx_linear.proofs.lost_calls.lost_ids.Goals as goal

pub returns : goal.returns
returns c =
    let h = c.args.history.now in
    let places = c.args.places.now in
    let marks = c.in_ok-executed.executed.items in
    IfOk-weaker c.sort_lost.result _ _ (λ lost is. λ ids same.
    lost_ids-by_marks ids h c.deref.result.now lost.items
    (c.deref.ensures.value ∙ AreMarked-is_among h c.requires places ids same marks
    c.in_ok-executed.ensures) is) c.sort_lost.ensures
