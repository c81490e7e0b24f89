use Rattle.std.proofs.Common.{◌≡◌, ◌↔◌, ◌⊎◌, ℕ, ◌<◌, length, length-set, get_or, set, sym, ap, ◌∙◌}
use Rattle.std.proofs.Common.{arith}
use Rattle.epx_types.proofs.Common.{get_or_read, get_or-set_same, get_or-set_other}
use Rattle.epx_graph.proofs.Common.{edges_of}
use Rattle.epx_components.specs.between.Collections.{LeadsOut}
use Rattle.epx_components.specs.between.Partitions.{parts, component_of, node_at}
use Rattle.epx_components.proofs.CollectionLemmas.{AreCollected-next}
use Rattle.epx_components.proofs.PartitionLemmas.{node_at-within, component_of-within}
use Rattle.epx_components.proofs.bottom_up.collect_bottom_up.Goals as goal

pub loop-node-preserved : goal.loop-node-preserved
loop-node-preserved g c =
    let edges = edges_of c.args.graph.now in
    let p = parts c.args.partition.now in
    let is = c.requires.partition.is in
    let values = c.loop-node.values.items in
    let none = g.C.Collector.none in
    let i = c.loop-node.node-index in
    let order = c.deref-node-items.ensures.value in
    let in' : i < length p.order = omega (arith, c.loop-node-test.true, ap length order) in
    let node_in = node_at-within edges p is i in' in
    let own : c.index-own.result.now ≡ component_of p (node_at p i) =
    get_or_read p.component _ _ (omega (arith, node_in, ap (λ xs. get_or xs i 0) order))
    c.index-own.ensures 0 ∙ ap (λ xs. get_or p.component (get_or xs i 0) 0) order in
    let own_in : component_of p (node_at p i) < length values =
    omega (
      arith,
      component_of-within edges p is (node_at p i) node_in,
      c.loop-node.invariant.len,
    ) in
    let x = c.add_targets.result in
    let read = c.deref-in-loop-node.result.now in
    let targets = c.edges.result.now in
    let added : (t : ℕ) → g.C.Collector.has t x
    ↔ (g.C.Collector.has t (get_or read c.index-own.result.now none)
    ⊎ LeadsOut c.deref.result.now c.index-own.result.now targets (length targets)
    (λ d. g.C.Collector.gives c.args.collector.now d (get_or read d none) t)) =
    c.add_targets.ensures in
    let add = rw (
      c.edges.ensures.edges,
      order,
      c.deref.ensures.value,
      c.deref-in-loop-node.ensures.value,
      own,
    ) at added in
    record {
      len = length-set values _ _ ∙ c.loop-node.invariant.len;
      collected = λ t. rw own (AreCollected-next edges p is
          (λ d v. g.C.Collector.gives c.args.collector.now d v t) (λ d. get_or values d none)
          (λ d. get_or (set values (component_of p (node_at p i)) x) d none) i in'
          (λ d ne. get_or-set_other values _ d x none ne) (g.C.Collector.has t) _
          (rw (get_or-set_same values (component_of p (node_at p i)) x none own_in) (add t))
          (c.loop-node.invariant.collected t));
    }

pub returns-clause-each : goal.returns-clause-each
returns-clause-each g c = λ t.
    let end : c.loop-node.node-index ≡ length c.args.partition.now.order.items =
    omega (
      arith,
      c.loop-node-test.false,
      c.loop-node.auto.node-index-end,
      ap length c.deref-node-items.ensures.value,
    ) in
    rw (sym end) (c.loop-node.invariant.collected t)
