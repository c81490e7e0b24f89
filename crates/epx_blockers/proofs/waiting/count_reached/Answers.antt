use Rattle.std.proofs.Common.{◌≡◌, inl, inr, ◌∙◌, ◌+◌, ◌-◌, ◌<◌, ◌≤◌, ℕ, List, Vec, length}
use Rattle.std.proofs.Common.{get_or, sym, ap, subst, arith}
use Rattle.epx_types.proofs.Common.{get_or_default, length-set, Global}
use Rattle.epx_graph.proofs.Common.{DependencyGraph, IsGraph, IsNodePath-within}
use Rattle.epx_components.specs.between.Partitions.{parts}
use Rattle.epx_blockers.specs.declared.reached.Reached.TheVariants.{Nothing, One, Several}
use Rattle.epx_blockers.specs.inner.NodeCounts.{AreMissingCounts, IsNodeCount, IsOneMoreIf}
use Rattle.epx_blockers.specs.inner.ReachedNodes.{IsOnlyReached, IsReached}
use Rattle.epx_blockers.proofs.NodeCountLemmas.{AreMissingCounts-step, IsNodeCount-step}
use Rattle.epx_blockers.proofs.NodeCountLemmas.{get_or-set_target}
use Rattle.epx_blockers.proofs.ReachedNodeLemmas.{IsReached-read}
use Rattle.epx_blockers.proofs.waiting.count_reached.Goals as goal
use Rattle.epx_blockers.proofs.waiting.count_reached.Goals.{in-Nothing, in-One, in-Several}

-- the index of a missing node that is reached
only_index : (g : DependencyGraph) → IsGraph g → (P : ℕ → ℕ → Type 0) (n count j : ℕ)
    (counts : List ℕ) → count ≡ g.committed → n < length g.ids → AreMissingCounts g P n counts
    → IsOnlyReached g n j → (count ≤ j) × (j - count < length counts)
only_index g graph P n count j counts is l are only =
    let within = IsNodePath-within g graph n only.0.1.0 j l only.0.1.1 in
    (omega (arith, is, only.0.0), omega (arith, is, only.0.0, within, are.all))

pub index_mut-requires : goal.index_mut-requires
index_mut-requires c =
    let g = c.args.graph.now in
    let n = c.loop-node.node in
    let graph = c.len.ensures.fits in
    let l : n < length g.ids =
    omega (
      arith,
      c.loop-node-test.true,
      c.committed_len-committed.ensures,
      graph.committed_nodes,
    ) in
    let only = IsReached-read g graph (parts c.args.partition.now) c.requires.partition.is
    c.requires.partition.each_node c.args.reached.now c.requires.len c.requires.each n
    c.index.result.now _ (One c.in-One.missing) l c.index.ensures c.in-One.is in
    let at = only_index g graph (IsOnlyReached g) n c.committed_len-committed.result
    c.in-One.missing c.loop-node.alone.items c.committed_len-committed.ensures l
    c.loop-node.invariant.alone only in
    omega (arith, at.1, c.loop-node.alone.ok.0)

pub overflow_add-index_mut : goal.overflow_add-index_mut
overflow_add-index_mut c =
    let g = c.args.graph.now in
    let n = c.loop-node.node in
    let graph = c.len.ensures.fits in
    let l : n < length g.ids =
    omega (
      arith,
      c.loop-node-test.true,
      c.committed_len-committed.ensures,
      graph.committed_nodes,
    ) in
    let only = IsReached-read g graph (parts c.args.partition.now) c.requires.partition.is
    c.requires.partition.each_node c.args.reached.now c.requires.len c.requires.each n
    c.index.result.now _ (One c.in-One.missing) l c.index.ensures c.in-One.is in
    let index = c.in-One.missing - c.committed_len-committed.result in
    let at = only_index g graph (IsOnlyReached g) n c.committed_len-committed.result
    c.in-One.missing c.loop-node.alone.items c.committed_len-committed.ensures l
    c.loop-node.invariant.alone only in
    let few = (c.loop-node.invariant.alone.each index at.1).few in
    let value = c.index_mut.ensures.value
    ∙ get_or_default c.loop-node.alone.items index c.index_mut.result.now 0 at.1 in
    omega (arith, few, value)

pub loop-node-preserved : goal.loop-node-preserved
loop-node-preserved c =
    let g = c.args.graph.now in
    let n = c.loop-node.node in
    let graph = c.len.ensures.fits in
    let count = c.committed_len-committed.result in
    let is = c.committed_len-committed.ensures in
    let l : n < length g.ids =
    omega (arith, c.loop-node-test.true, is, graph.committed_nodes) in
    let read = IsReached-read g graph (parts c.args.partition.now) c.requires.partition.is
    c.requires.partition.each_node c.args.reached.now c.requires.len c.requires.each n
    c.index.result.now in
    let items : Vec ℕ Global → List ℕ = λ v. v.items in
    let old = c.loop-node.alone.items in
    let are = c.loop-node.invariant.alone in
    let alone : (new : List ℕ) → length new ≡ length old → ((i : ℕ) → i < length old
    → IsOneMoreIf (IsOnlyReached g n (g.committed + i)) (get_or old i 0) (get_or new i 0))
    → AreMissingCounts g (IsOnlyReached g) (n + 1) new =
    λ new same change. AreMissingCounts-step g (IsOnlyReached g) n old new same change are in
    let unchanged : (new : List ℕ) → new ≡ old → ((j : ℕ) → ¬ IsOnlyReached g n j)
    → AreMissingCounts g (IsOnlyReached g) (n + 1) new =
    λ new same none. alone new (ap length same)
    (λ i low. inr (none (g.committed + i), ap (λ ns. get_or ns i 0) same)) in
    let several : (new : ℕ) → IsOneMoreIf (IsReached g n Several) c.loop-node.several new
    → IsNodeCount (λ k. IsReached g k Several) (n + 1) new =
    λ new change. IsNodeCount-step (λ k. IsReached g k Several) n c.loop-node.several
    c.loop-node.invariant.several new change in
    elim c.match-reached-index.branch [
      | in-Nothing w ↦
          let none = read _ Nothing l c.index.ensures w.in-Nothing.is in
          record {
            alone = unchanged c.match-reached-index.alone.items (ap items w.alone-is)
                (λ j only. none j only.0);
            several = several c.match-reached-index.several
                (inr (λ s. none s.0 s.2, w.several-is));
          }
      | in-One w ↦
          let j = w.in-One.missing in
          let only = read _ (One j) l c.index.ensures w.in-One.is in
          let at = only_index g graph (IsOnlyReached g) n count j old is l are only in
          let value = w.index_mut.ensures.value
          ∙ get_or_default old (j - count) w.index_mut.result.now 0 at.1 in
          let grown = ap items w.alone-is in
          record {
            alone = alone c.match-reached-index.alone.items
                (ap length grown ∙ length-set old _ _) (λ i low.
                elim (get_or-set_target old count j i at.0 at.1 w.index_mut.result.now value) [
                  | inl (same, more) ↦ inl (
                    subst (IsOnlyReached g n) (omega (arith, same, is)) only,
                    ap (λ ns. get_or ns i 0) grown ∙ more,
                  )
                  | inr (differs, kept) ↦ inr (
                    λ other. differs (omega (arith, is, other.1 j only.0)),
                    ap (λ ns. get_or ns i 0) grown ∙ kept,
                  )
                ]);
            several = several c.match-reached-index.several
                (inr (λ s. s.4 (only.1 s.0 s.2 ∙ sym (only.1 s.1 s.3)), w.several-is));
          }
      | in-Several w ↦
          let s = read _ Several l c.index.ensures w.in-Several.is in
          record {
            alone = unchanged c.match-reached-index.alone.items (ap items w.alone-is)
                (λ j only. s.4 (only.1 s.0 s.2 ∙ sym (only.1 s.1 s.3)));
            several = several c.match-reached-index.several (inl (s, w.several-is));
          }
    ]

pub returns-clause-several : goal.returns-clause-several
returns-clause-several c =
    let g = c.args.graph.now in
    let all : c.loop-node.node ≡ g.committed =
    omega (
      arith,
      c.committed_len-committed.ensures,
      c.loop-node-test.false,
      c.loop-node.auto.node-end,
    ) in
    subst (λ n. IsNodeCount (λ k. IsReached g k Several) n c.loop-node.several) all
    c.loop-node.invariant.several
