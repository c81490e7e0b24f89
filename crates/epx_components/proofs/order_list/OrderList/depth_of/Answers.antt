use Rattle.std.proofs.Common.{length, slice_get, refl, sym, ap, ◌∙◌, arith}
use Rattle.epx_components.specs.Ranks.{ranked}
use Rattle.epx_components.proofs.RankLemmas.{ranked_all-at}
use Rattle.epx_components.proofs.order_list.OrderList.depth_of.Goals as goal

pub returns : goal.returns
returns c =
    let rank = c.index.result.now in
    let at = ranked_all-at c.self.inside.ranks.items c.args.position rank
    (omega (arith, c.requires, ap length c.self.view_is)) c.index.ensures in
    (ranked rank, ap (λ ranks. slice_get ranks c.args.position) (sym c.self.view_is) ∙ at, refl)
