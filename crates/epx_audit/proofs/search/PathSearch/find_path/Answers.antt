use Rattle.std.proofs.Common.{◌∷◌, [], inl, inr, Contains, sym, subst, ◌∙◌}
use Rattle.epx_types.proofs.Common.{Contains-append_left, Contains-push}
use Rattle.epx_graph.proofs.Common.{edges_of, edges_of-within}
use Rattle.epx_components.proofs.NodePathLemmas.{NodeReaches-edge, NodeReaches-trans}
use Rattle.epx_audit.proofs.search.PathSearch.find_path.Goals as goal

pub open_targets-requires-clause-node : goal.open_targets-requires-clause-node
open_targets-requires-clause-node c =
    let node = c.in-Some.node in
    (c.loop.invariant.opened node
    (subst (λ xs. Contains xs node) (sym c.in-Some.ensures.items)
    (Contains-push c.pop.new.self.items node))).0

pub returns-then-branch-clause-reaches : goal.returns-then-branch-clause-reaches
returns-then-branch-clause-reaches c = λ yes.
    let node = c.in-Some.node in
    let from =
    (c.loop.invariant.opened node
    (subst (λ xs. Contains xs node) (sym c.in-Some.ensures.items)
    (Contains-push c.pop.new.self.items node))).1 in
    NodeReaches-trans (edges_of c.args.graph.now) c.args.from node _ from
    (c.in_ok-open_targets.ensures.reaches c.if-branch.true)

pub loop-preserved : goal.loop-preserved
loop-preserved c =
    let g = c.args.graph.now in
    let node = c.in-Some.node in
    let popped = c.loop.invariant.opened node
    (subst (λ xs. Contains xs node) (sym c.in-Some.ensures.items)
    (Contains-push c.pop.new.self.items node)) in
    record {
      seen = c.in_ok-open_targets.ensures.seen ∙ c.loop.invariant.seen;
      opened = λ j h. elim (c.in_ok-open_targets.ensures.opened j h) [
        | inl was ↦ c.loop.invariant.opened j
            (subst (λ xs. Contains xs j) (sym c.in-Some.ensures.items)
            (Contains-append_left c.pop.new.self.items (node ∷ []) j was))
        | inr edge ↦ (
          edges_of-within g c.len-end.ensures.fits node j edge,
          NodeReaches-trans (edges_of g) c.args.from node j popped.1
              (NodeReaches-edge (edges_of g) node j edge),
        )
      ];
    }
