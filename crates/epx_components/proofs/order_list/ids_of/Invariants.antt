use Rattle.std.proofs.Common.{◌≡◌, take}
use Rattle.epx_types.proofs.Common.{ranked_ids}
use Rattle.epx_components.specs.Ranks.{ranked_all}
use Rattle.epx_components.proofs.order_list.ids_of.Given as goal

abbrev pub invariant-loop-rank : goal.invariant-loop-rank
invariant-loop-rank l = l.ids.items ≡ ranked_ids (take l.rank-index (ranked_all l.ranks))
