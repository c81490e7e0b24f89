use Rattle.std.proofs.Common.{◌≡◌, ◌+◌, ◌<◌, ℕ, length, set, sym, subst, ◌∙◌, arith}
use Rattle.epx_types.proofs.Common.{get_or_read, length-set}
use Rattle.epx_components.specs.between.Partitions.{parts, component_of}
use Rattle.epx_blockers.specs.declared.reached.Reached.TheVariants.{One}
use Rattle.epx_blockers.proofs.ReachedNodeLemmas.{AreFirstReached, AreFirstReached-step}
use Rattle.epx_blockers.proofs.ReachedNodeLemmas.{IsReached-all}
use Rattle.epx_blockers.proofs.reached.find_reached.Goals as goal

pub loop-node-preserved : goal.loop-node-preserved
loop-node-preserved c =
    let g = c.args.graph.now in
    let p = parts c.args.partition.now in
    let n = c.loop-node.node in
    let values = c.loop-node.reached.items in
    let old = c.loop-node.invariant in
    let within : n < length g.ids =
    omega (
      arith,
      c.loop-node-test.true,
      c.loop-node.auto.node-end,
      c.len-node-end.ensures.len,
    ) in
    let home : c.index.result.now ≡ component_of p n =
    get_or_read p.component n c.index.result.now (omega (arith, within, c.requires.each_node))
    c.index.ensures 0 in
    record {
      len = length-set values _ _ ∙ old.len;
      from = omega (arith, old.from);
      first = subst (λ (d : ℕ). AreFirstReached g p (n + 1) (set values d (One n))) (sym home)
          (AreFirstReached-step g c.len-node-end.ensures.fits p c.requires.is c.requires.each_node n
          values old.from within old.len old.first);
    }

pub returns-clause-each : goal.returns-clause-each
returns-clause-each c =
    let g = c.args.graph.now in
    let n = c.loop-node.node in
    let whole : n ≡ length g.ids =
    omega (
      arith,
      c.loop-node-test.false,
      c.loop-node.auto.node-end,
      c.len-node-end.ensures.len,
      c.len-node-end.ensures.fits.committed_nodes,
      c.committed_len-node.ensures,
    ) in
    IsReached-all g c.len-node-end.ensures.fits (parts c.args.partition.now) c.requires.is
    c.requires.each_node c.loop-node.reached.items c.collect_bottom_up.result.items n whole
    c.loop-node.invariant.first c.collect_bottom_up.ensures.each
