use Rattle.std.proofs.Common.{◌≡◌, ◌≤◌, take}
use Rattle.epx_types.proofs.Common.{component_count}
use Rattle.epx_components.specs.Ranks.{ranked_all}
use Rattle.epx_components.proofs.order_list.count_leaders.Given as goal

abbrev pub invariant-loop-rank : goal.invariant-loop-rank
invariant-loop-rank l = record {
  fits : l.count ≤ l.rank-index;
  counted : l.count ≡ component_count (take l.rank-index (ranked_all l.ranks));
}
