use Rattle.std.proofs.Common.{◌≡◌, ◌+◌, suc, get_or, set, arith, subst, Some, slice_get}
use Rattle.epx_types.proofs.Common.{slice_get-get_or}
use Rattle.epx_linear.specs.declared.spans.Span.{Span}
use Rattle.epx_linear.proofs.SpanRankLemmas.{AreNoted, no_span, AreRanksOf-noted, AreNoted-set}
use Rattle.epx_linear.proofs.spans.ranks_of.Goals as goal

pub loop-index-preserved : goal.loop-index-preserved
loop-index-preserved c =
    let spans = c.args.spans.now in
    let i = c.loop-index.index in
    let ranks = c.loop-index.ranks.items in
    let s : Span = get_or spans i no_span in
    let at : slice_get spans i ≡ Some s = slice_get-get_or spans i no_span c.loop-index-test.true in
    let next : suc i ≡ i + 1 = omega arith in
    subst (λ n. AreNoted spans (i + 1) (set ranks s.at n)) next
    (AreNoted-set spans c.requires i ranks c.loop-index.invariant s at)

pub returns : goal.returns
returns c = AreRanksOf-noted c.args.spans.now c.loop-index.index c.loop-index.ranks.items
    (omega (arith, c.loop-index-test.false, c.loop-index.auto.index-end)) c.loop-index.invariant
