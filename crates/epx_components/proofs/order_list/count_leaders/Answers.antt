use Rattle.std.proofs.Common.{arith, sym, ◌∙◌}
use Rattle.epx_components.proofs.RankLemmas.{component_count-leader, component_count-no_leader}
use Rattle.epx_components.proofs.order_list.count_leaders.Goals as goal
use Rattle.epx_components.proofs.order_list.count_leaders.Goals.{then-eq, else-eq}

pub loop-rank-preserved : goal.loop-rank-preserved
loop-rank-preserved c =
    let ranks = c.args.ranks.now in
    let i = c.loop-rank.rank-index in
    let old = c.loop-rank.invariant in
    elim c.if-eq.branch [
      | then-eq w ↦
          let more = component_count-leader ranks i _ c.loop-rank-test.true
          (sym c.eq.ensures ∙ w.if-eq.true) in
          record {
            fits = omega (arith, w.count-is, old.fits);
            counted = omega (arith, w.count-is, old.counted, more);
          }
      | else-eq w ↦
          let same = component_count-no_leader ranks i _ c.loop-rank-test.true
          (sym c.eq.ensures ∙ w.if-eq.false) in
          record {
            fits = omega (arith, w.count-is, old.fits);
            counted = omega (arith, w.count-is, old.counted, same);
          }
    ]
