use Rattle.std.proofs.Common.{◌-◌, ◌∙◌, take, drop, ap, List}
use Rattle.epx_merge.specs.declared.line_batch.Span.{Span}
use Rattle.epx_merge.proofs.LineBatchLemmas.{lines_at-range}
use Rattle.epx_merge.proofs.line_batch.LineBatch.lines.Goals as goal

pub returns : goal.returns
returns c =
    let bytes = c.self.inside.bytes.items in
    let count = c.args.end - c.args.start in
    let same = ap (λ (spans : List Span). take count (drop c.args.start spans))
    c.deref.ensures.value in
    c.loop-span.invariant
    ∙ lines_at-range bytes c.self.inside.spans.items _ c.args.self.now c.args.start count
    c.loop-span.span-index c.self.view_is same c.loop-span-test.false
