use Rattle.std.proofs.Common.{◌≡◌, ◌∙◌, ◌+◌, ◌<◌, ℕ, length, get_or, Contains, sym, ap}
use Rattle.std.proofs.Common.{subst, arith}
use Rattle.epx_types.proofs.Common.{with_items_is}
use Rattle.epx_graph.proofs.Common.{edges_of}
use Rattle.epx_blockers.specs.inner.NodeCounts.{AreMissingCounts, IsOneMoreIf}
use Rattle.epx_blockers.proofs.NodeCountLemmas.{AreMissingCounts-step}
use Rattle.epx_blockers.proofs.named.count_named.Goals as goal

pub loop-node-preserved : goal.loop-node-preserved
loop-node-preserved c =
    let g = c.args.graph.now in
    let vec = c.loop-node.named in
    let old = vec.items in
    let new = c.add_missing.new.named in
    let read = c.deref_mut.ensures.value in
    let len : length new ≡ length old = c.add_missing.ensures.len ∙ ap length read in
    let written = with_items_is vec new (len ∙ sym vec.ok.0) in
    let each : (i : ℕ) → i < length old
    → IsOneMoreIf (Contains (edges_of g c.loop-node.node) (g.committed + i)) (get_or old i 0)
    (get_or new i 0) =
    rw (read, c.edges.ensures.edges, c.committed_len-committed.ensures) at
    c.add_missing.ensures.each in
    subst (AreMissingCounts g (λ k j. Contains (edges_of g k) j) (c.loop-node.node + 1))
    (sym written)
    (AreMissingCounts-step g (λ k j. Contains (edges_of g k) j) c.loop-node.node old new len each
    c.loop-node.invariant)

pub returns : goal.returns
returns c =
    let g = c.args.graph.now in
    let all : c.loop-node.node ≡ g.committed =
    omega (
      arith,
      c.committed_len-committed.ensures,
      c.loop-node-test.false,
      c.loop-node.auto.node-end,
    ) in
    subst (λ n. AreMissingCounts g (λ k j. Contains (edges_of g k) j) n c.loop-node.named.items) all
    c.loop-node.invariant
