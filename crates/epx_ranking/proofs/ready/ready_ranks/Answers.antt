use Rattle.std.proofs.Common.{◌≡◌, ◌+◌, List, sym, ap, ◌∙◌, subst, arith}
use Rattle.epx_types.proofs.Common.{remaining}
use Rattle.epx_components.specs.declared.rank.Rank.{Rank}
use Rattle.epx_ranking.proofs.ReadyRankLemmas.{AreGathered, AreReadyRanks-all, AreGathered-none}
use Rattle.epx_ranking.proofs.ReadyRankLemmas.{AreGathered-skip, AreGathered-push}
use Rattle.epx_ranking.proofs.ready.ready_ranks.Goals as goal
use Rattle.epx_ranking.proofs.ready.ready_ranks.Goals.{in-Some+in_ok-push, in_default}

pub rank_of-requires-clause-node_rank : goal.rank_of-requires-clause-node_rank
rank_of-requires-clause-node_rank c =
    c.in_ok-node_ranks.ensures.each c.loop-node.node c.get.result c.get.ensures

pub loop-node-init : goal.loop-node-init
loop-node-init c done is = rw c.in_ok-ranks.ensures.items
    (AreGathered-none (remaining done c.args.merged.now) c.args.graph.now)

pub loop-node-preserved : goal.loop-node-preserved
loop-node-preserved c done is =
    let m = remaining done c.args.merged.now in
    let g = c.args.graph.now in
    let n = c.loop-node.node in
    let old = c.loop-node.invariant done is in
    let Gathered : List Rank → Type 0 = λ ranks. AreGathered m g (n + 1) ranks in
    elim c.match-rank_of.branch [
      | in-Some+in_ok-push w ↦
          let more = ap (λ v. v.items) w.ranks-is ∙ w.in_ok-push.ensures.items in
          subst Gathered (sym more)
          (AreGathered-push m g is.graph n c.loop-node.ranks.items w.in-Some.rank
          w.in-Some.ensures.id (w.in-Some.ensures.rank done is) old)
      | in_default w ↦
          subst Gathered (sym (ap (λ v. v.items) w.ranks-is))
          (AreGathered-skip m g n c.loop-node.ranks.items
          (λ x. w.in_default.ensures.none done x is) old)
    ]

pub returns : goal.returns
returns c done is =
    let m = remaining done c.args.merged.now in
    let g = c.args.graph.now in
    let ranks = c.loop-node.ranks.items in
    let all : c.loop-node.node ≡ g.committed =
    omega (
      arith,
      c.loop-node.auto.node-end,
      c.loop-node-test.false,
      c.committed_len-node-end.ensures,
    ) in
    AreReadyRanks-all m g is ranks
    (subst (λ n. AreGathered m g n ranks) all (c.loop-node.invariant done is))
