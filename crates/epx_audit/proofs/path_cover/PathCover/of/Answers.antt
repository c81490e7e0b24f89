use Rattle.std.proofs.Common.{◌≡◌, ◌<◌, ◌≤◌, All, get_or, length, sym, subst, ap, ◌∙◌, arith}
use Rattle.epx_graph.proofs.Common.{edges_of, edges_of-within}
use Rattle.epx_audit.specs.inner.PathCovers.{AreJoined, ArePositions, AreTails, lists_of}
use Rattle.epx_audit.proofs.OrderNodeLemmas.{LeadersJoin-order_nodes, All-nodes_in_graph}
use Rattle.epx_audit.proofs.OrderOnceLemmas.{get_or-nodes_once}
use Rattle.epx_audit.proofs.PathCoverStepLemmas.{IsStep, AreCovered-next, AreTails-next}
use Rattle.epx_audit.proofs.PathCoverStepLemmas.{take-written}
use Rattle.epx_audit.proofs.path_cover.PathCover.of.Goals as goal

pub positions_of-requires : goal.positions_of-requires
positions_of-requires c = record {
  nodes = subst (λ n. All (λ k. k < n) c.args.nodes.now) (sym c.len.ensures.len)
      (All-nodes_in_graph c.args.merged.now c.args.order.now c.args.nodes.now c.requires.nodes
      c.args.graph.now c.requires.graph);
}

pub merge_members-requires-clause-nodes : goal.merge_members-requires-clause-nodes
merge_members-requires-clause-nodes c = All-nodes_in_graph c.args.merged.now c.args.order.now
    c.args.nodes.now c.requires.nodes c.args.graph.now c.requires.graph

pub loop-cover-preserved : goal.loop-cover-preserved
loop-cover-preserved c =
    let g = c.args.graph.now in
    let edges = edges_of g in
    let nodes = c.args.nodes.now in
    let old = lists_of c.loop-cover.cover in
    let new = lists_of c.push_component.new.self in
    let end = c.component_end-end.result in
    let inv = c.loop-cover.invariant in
    let next = c.in_ok-push_component.ensures.next in
    let merged = c.in_ok-merge_members.ensures in
    let start : c.len-in-loop-cover-2.result ≡ length c.loop-cover.cover.members.items =
    omega (arith, c.len-in-loop-cover-2.ensures, c.loop-cover.cover.members.ok.0) in
    let in_order : c.component_end-end.result ≤ length c.args.nodes.now =
    omega (arith, c.component_end-end.ensures.within, c.requires.nodes.whole) in
    let joins = LeadersJoin-order_nodes c.args.merged.now c.args.order.now nodes c.requires.nodes g
    c.requires.graph c.requires.order in
    let value = c.deref_mut.ensures.value in
    let step : IsStep edges nodes old new end c.loop-cover.row.greatest.items
    c.merge_members.new.self.greatest.items c.deref_mut.result.now c.push_component.new.tails
    c.deref.result.now next.0 next.1 = record {
      covered = inv.covered;
      next = next.2;
      joined = subst (λ n. AreJoined edges nodes n end) start
          (c.component_end-end.ensures.joined edges nodes joins);
      more = omega (arith, c.component_end-end.ensures.after, start);
      within = in_order;
      placed = subst (ArePositions nodes) (sym c.deref.ensures.value)
          c.in_ok-positions.ensures.positions;
      in_positions = λ p t below edge. omega (
        arith,
        edges_of-within g c.requires.graph.graph (get_or nodes p 0) t edge,
        c.in_ok-positions.ensures.len,
        c.len.ensures.len,
        ap length c.deref.ensures.value,
      );
      before = merged.before c.if-not-branch.false;
      none = inv.none;
      merged = merged.adds c.if-not-branch.false;
      last = subst (AreTails edges nodes old) (sym value) inv.tails;
      each_tail = ap length value ∙ inv.each_tail;
    } in
    let long : length c.push_component.new.tails ≡ length c.loop-cover.tails.items =
    c.push_component.ensures.tails ∙ ap length value in
    let back = take-written c.push_component.new.tails c.loop-cover.tails.items
    c.loop-cover.tails.len long c.loop-cover.tails.ok.0 in
    record {
      covered = AreCovered-next edges nodes old new end c.loop-cover.row.greatest.items
          c.merge_members.new.self.greatest.items c.deref_mut.result.now c.push_component.new.tails
          c.deref.result.now next.0 next.1 step;
      within = omega (arith, next.2.whole, in_order);
      tails = subst (AreTails edges nodes new) (sym back)
          (AreTails-next edges nodes old new end c.loop-cover.row.greatest.items
          c.merge_members.new.self.greatest.items c.deref_mut.result.now c.push_component.new.tails
          c.deref.result.now next.0 next.1 step);
      each_tail = ap length back ∙ (long ∙ inv.each_tail);
      each_path = c.in_ok-push_component.ensures.len
          ∙ ((merged.adds c.if-not-branch.false).len ∙ inv.each_path);
      none = c.in_ok-push_component.ensures.none;
      paths = c.in_ok-push_component.ensures.paths;
    }

pub returns : goal.returns
returns c = record {
  whole = omega (
    arith,
    c.loop-cover-test.false,
    c.len-in-loop-cover.ensures,
    c.loop-cover.cover.members.ok.0,
    c.loop-cover.invariant.within,
  );
  once = get_or-nodes_once c.args.merged.now c.args.order.now c.args.nodes.now c.requires.nodes
      c.requires.order;
  covered = c.loop-cover.invariant.covered;
}
