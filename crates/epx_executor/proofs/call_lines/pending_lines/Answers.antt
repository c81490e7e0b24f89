use Rattle.std.proofs.Common.{◌∷◌, [], ◌++◌, List, map, sym, ap, ap₂, ◌∙◌, arith}
use Rattle.std.proofs.Math.ListN.{get_or-map}
use Rattle.epx_types.proofs.Common.{length-map, Placed}
use Rattle.epx_executor.proofs.CallLineLemmas.{line_at, lines_from-more}
use Rattle.epx_executor.proofs.call_lines.pending_lines.Goals as goal

pub loop-entry-preserved : goal.loop-entry-preserved
loop-entry-preserved c =
    let e = c.entry-item.result in
    let entries = c.args.entries.now in
    let part = map (λ d. d.now) entries in
    let k = c.loop-entry.entry-index in (
      c.in_ok-push.ensures.items ∙ ap₂ (λ (ls : List Placed) (p : Placed). ls ++ p ∷ [])
          c.loop-entry.invariant.0
          (c.new.ensures ∙ ap₂ (line_at 0) (omega (arith, c.loop-entry.invariant.1))
          (c.in_ok-copy.ensures ∙ ap (λ d. d.now) c.entry-item.is
          ∙ sym (get_or-map (λ d. d.now) entries k e)))
          ∙ sym (lines_from-more 0 1 part k e.now
          (omega (arith, c.loop-entry-test.true, length-map entries (λ d. d.now)))),
      omega (arith, c.loop-entry.invariant.1),
    )
