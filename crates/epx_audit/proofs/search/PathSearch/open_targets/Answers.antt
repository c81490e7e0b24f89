use Rattle.std.proofs.Common.{inl, inr, Contains, length, length-set, get_or, subst, ap, ◌∙◌}
use Rattle.epx_types.proofs.Common.{Contains-get_or, Contains-push_cases}
use Rattle.epx_graph.proofs.Common.{edges_of, edges_of-within}
use Rattle.epx_components.proofs.NodePathLemmas.{NodeReaches-edge, NodeReaches-trans}
use Rattle.epx_audit.proofs.search.PathSearch.open_targets.Goals as goal
use Rattle.epx_audit.proofs.search.PathSearch.open_targets.Goals.{then-index-position+then-index-self+in_ok-push}
use Rattle.epx_audit.proofs.search.PathSearch.open_targets.Goals.{else-index-position}

pub returns-then-reaches_by_chain-clause-reaches : goal.returns-then-reaches_by_chain-clause-reaches
returns-then-reaches_by_chain-clause-reaches c = λ yes.
    let g = c.args.graph.now in
    let edges = edges_of g in
    let node = c.args.node in
    let targets = c.edges-target-items.result.now in
    let target = get_or targets c.loop-target.target-index 0 in
    let edge : Contains (edges node) target =
    subst (λ xs. Contains xs target) c.edges-target-items.ensures.edges
    (Contains-get_or targets c.loop-target.target-index 0 c.loop-target-test.true) in
    let between = c.reaches_by_chain.ensures c.if-reaches_by_chain.true in
    let down = c.requires.reach.down target c.args.position
    (edges_of-within g c.edges-target-items.ensures.fits node target edge) between.0 between.1 in
    NodeReaches-trans edges node target _ (NodeReaches-edge edges node target edge) down.1

pub loop-target-preserved : goal.loop-target-preserved
loop-target-preserved c =
    let node = c.args.node in
    let targets = c.edges-target-items.result.now in
    let target = get_or targets c.loop-target.target-index 0 in
    let edge : Contains (edges_of c.args.graph.now node) target =
    subst (λ xs. Contains xs target) c.edges-target-items.ensures.edges
    (Contains-get_or targets c.loop-target.target-index 0 c.loop-target-test.true) in
    let old = c.loop-target.invariant in
    elim c.if-index-position.branch [
      | then-index-position+then-index-self+in_ok-push w ↦ record {
        seen = ap (λ v. length v.seen.items) w.self-is
            ∙ (length-set c.loop-target.self.seen.items _ _ ∙ old.seen);
        opened = λ j h. elim (Contains-push_cases c.loop-target.self.opened.items target j
            (subst (λ xs. Contains xs j)
            (ap (λ v. v.opened.items) w.self-is ∙ w.in_ok-push.ensures.items) h)) [
              | inl was ↦ old.opened j was
              | inr same ↦ inr (subst (Contains (edges_of c.args.graph.now node)) same edge)
            ];
      }
      | else-index-position w ↦ record {
        seen = ap (λ v. length v.seen.items) w.self-is ∙ old.seen;
        opened = λ j h. old.opened j
            (subst (λ xs. Contains xs j) (ap (λ v. v.opened.items) w.self-is) h);
      }
    ]
