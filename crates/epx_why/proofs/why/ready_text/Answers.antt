use Rattle.std.proofs.Common.{◌≡◌, ◌∙◌, List, Some, slice_get, sym, ap}
use Rattle.epx_types.proofs.Common.{IfOk-weaker, Ranked, IsExecutionOrder}
use Rattle.epx_types.specs.declared.id.Id.{Id}
use Rattle.epx_why.specs.WhyLines.{ready_line}
use Rattle.epx_why.specs.WhyTexts.{IsWhyText}
use Rattle.epx_why.proofs.WhyTextLemmas.{IsWhyText-ready}
use Rattle.epx_why.proofs.why.ready_text.Goals as goal

pub returns : goal.returns
returns c =
    let order = c.args.order.now in
    let x = c.args.id in
    let position = c.position_of.result in
    let at = ap (λ (ids : List Id). slice_get ids position) (sym c.ids.ensures)
    ∙ c.position_of.ensures in
    IfOk-weaker c.ready_line.result
    (λ text. (r : Ranked) → slice_get order position ≡ Some r
    → text.items ≡ ready_line position r)
    (λ text. (m : List _) → IsExecutionOrder m order → IsWhyText m x text.items)
    (λ text is m executed. IsWhyText-ready m order x position executed at text.items is)
    c.ready_line.ensures
