use Rattle.std.proofs.Common.{◌<◌, ◌∙◌, ap, arith, length, Some, sym}
use Rattle.std.proofs.lemmas.Option.{slice_get_past}
use Rattle.epx_types.proofs.Common.{slice_get-get_or}
use Rattle.epx_linear.specs.inner.Spans.{number_or_zero, rank_at}
use Rattle.epx_linear.proofs.SpanRankLemmas.{AreRanksOf-within}
use Rattle.epx_linear.proofs.spans.Spans.rank_at.Goals as goal

pub returns-in-Some-clause-within : goal.returns-in-Some-clause-within
returns-in-Some-clause-within c =
    let ranks = c.args.self.now.ranks in
    let at = c.in-Some.at in
    let within : at < length ranks.items =
    omega (arith, c.if-at-len.true, c.len.ensures, ranks.ok) in
    AreRanksOf-within c.args.self.now.spans.items ranks.items c.requires at c.index.result.now
    (slice_get-get_or ranks.items at c.index.result.now within ∙ ap Some (sym c.index.ensures))

pub returns-in_default-clause-rank : goal.returns-in_default-clause-rank
returns-in_default-clause-rank c =
    let ranks = c.args.self.now.ranks in
    sym (ap (rank_at ranks.items) c.in-Some.is ∙ ap number_or_zero
    (slice_get_past ranks.items c.in-Some.at
    (omega (arith, c.if-at-len.false, c.len.ensures, ranks.ok))))
