use Rattle.std.proofs.Common.{◌∙◌}
use Rattle.epx_components.proofs.RankLemmas.{ranked_ids-push}
use Rattle.epx_components.proofs.order_list.ids_of.Goals as goal

pub loop-rank-preserved : goal.loop-rank-preserved
loop-rank-preserved c = c.in_ok-push.ensures.items ∙ ranked_ids-push c.args.ranks.now
    c.loop-rank.rank-index _ c.loop-rank-test.true _ c.loop-rank.invariant
