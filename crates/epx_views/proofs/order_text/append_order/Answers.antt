use Rattle.epx_views.proofs.OrderTextLemmas.{line_of-order_data, order_line-step}
use Rattle.epx_views.proofs.order_text.append_order.Goals as goal

pub loop-position-preserved : goal.loop-position-preserved
loop-position-preserved c =
    let order = c.args.order.now in
    let position = c.loop-position.position in
    let at = c.depth_of.ensures in
    let line = line_of-order_data order position c.ids-id-items.result.now _ c.depth_of.result
    c.component_of-leader.result c.ids-id-items.ensures at c.component_of-leader.ensures in
    order_line-step order position at.0 c.loop-position.text.items
    c.append_ranked.new.text.items _ _ at.1 line c.loop-position.invariant
    c.in_ok-append_ranked.ensures
