-- Counts of nodes are counts of instances, and the missing nodes are the missing instances.
use Rattle.std.proofs.Common.{◌≡◌, ◌↔◌, ℕ, ◌+◌, ◌<◌, List, [], ◌∷◌, ◌++◌, length, map, take, get_or}
use Rattle.std.proofs.Common.{inl, inr, Contains, Some, slice_get, sym, ap, ap₂, subst, ◌∙◌, arith}
use Rattle.epx_types.proofs.Common.{Below, IsRising, Instance, IsCommitted, DependsOn}
use Rattle.epx_types.proofs.Common.{slice_get_within, slice_get-get_or, get_or_from_slice_get}
use Rattle.epx_types.proofs.Common.{slice_get-from_map, Contains-slice_get, Contains-map}
use Rattle.epx_types.proofs.Common.{Contains-from_map, AllPairs-slice_get}
use Rattle.epx_types.proofs.Common.{AllPairs-from_slice_get, IsRising-from_AllPairs, length-map}
use Rattle.epx_types.proofs.Common.{DependsOn-committed, Contains-push_cases, get_or-drop}
use Rattle.epx_types.proofs.Common.{length-drop, map_push, take_more}
use Rattle.epx_types.specs.declared.id.Id.{Id}
use Rattle.epx_graph.specs.GraphOf.{IsMissing}
use Rattle.epx_graph.proofs.Common.{DependencyGraph, IsGraphOf, edges_of, missing_ids}
use Rattle.epx_graph.proofs.Common.{slice_get-id_of_node}
use Rattle.epx_graph.proofs.Common.{ids-is_unique, IsCommitted-iff_node, slice_get-if_committed}
use Rattle.epx_graph.proofs.Common.{NodeReaches-iff, NodeReaches-exists, IsNodePath-within}
use Rattle.epx_graph.proofs.Common.{IsCommitted-not_past}
use Rattle.epx_graph.proofs.Common.{committed-if_missing, Below-committed}
use Rattle.epx_blockers.specs.declared.blocker.Blocker.{Blocker}
use Rattle.epx_blockers.specs.declared.reached.Reached.TheVariants.{Several}
use Rattle.epx_blockers.specs.Blockers.{HasBlockerCounts, AreBlockers}
use Rattle.epx_blockers.specs.Blocking.{Blocks, BlocksAlone, SeveralBlock}
use Rattle.epx_blockers.specs.IdCounts.{IsListOf, IsCount}
use Rattle.epx_blockers.specs.inner.NodeBlockers.{IsNodeBlocker, AreNodeBlockers}
use Rattle.epx_blockers.specs.inner.NodeCounts.{IsNodeCount, AreMissingCounts}
use Rattle.epx_blockers.specs.inner.ReachedNodes.{ReachesMissingNode, IsOnlyReached, IsReached}

module _ (m : List Instance) (g : DependencyGraph) (is : IsGraphOf m g) where
  -- the Id of a node
  abbrev name : ℕ → Id
  name k = get_or g.ids k (record { replica = 0; number = 0 })

  name_at : (k : ℕ) → k < g.committed → slice_get g.ids k ≡ Some (name k)
  name_at k l = slice_get-get_or g.ids k (record { replica = 0; number = 0 })
      (omega (arith, l, is.graph.committed_nodes))

  -- a property of nodes, which is one of committed instances
  module _ (P : ℕ → Type 0) (Q : Id → Type 0) (committed : (x : Id) → Q x → IsCommitted m x)
      (same : (k : ℕ) (x : Id) → k < g.committed → slice_get g.ids k ≡ Some x → P k ↔ Q x)
      (n : ℕ) (count : IsNodeCount P g.committed n) where
    names : List Id
    names = map name count.nodes

    names_rise : IsRising names
    unfolding names
    names_rise =
        IsRising-from_AllPairs (map name count.nodes)
        (AllPairs-from_slice_get Below (map name count.nodes) (λ i j x y l p q.
        let k = slice_get-from_map name count.nodes i x p in
        let h = slice_get-from_map name count.nodes j y q in
        let low = ((count.exact k.0).0 (Contains-slice_get count.nodes i k.0 k.1)).0 in
        let high = ((count.exact h.0).0 (Contains-slice_get count.nodes j h.0 h.1)).0 in
        (Below-committed g is.graph k.0 h.0 x y (name_at k.0 low ∙ ap Some k.2)
        (name_at h.0 high ∙ ap Some h.2) low high).0
        (AllPairs-slice_get (λ a b. a < b) count.nodes count.rising i j k.0 h.0 l k.1 h.1)))

    named : (x : Id) → Contains names x → Q x
    unfolding names
    named x h =
        let k = Contains-from_map name count.nodes x h in
        let counted = (count.exact k.0).0 k.1 in
        (same k.0 x counted.0 (name_at k.0 counted.0 ∙ ap Some k.2)).0 counted.1

    has_name : (x : Id) → Q x → Contains names x
    unfolding names
    has_name x q =
        let k = slice_get-if_committed m g is x (committed x q) in
        let there = (count.exact k.0).1 (k.1, (same k.0 x k.1 k.2).1 q) in
        subst (Contains (map name count.nodes))
        (get_or_from_slice_get g.ids k.0 x (record { replica = 0; number = 0 }) k.2)
        (Contains-map name count.nodes k.0 there)

    pub IsCount-from_nodes : IsCount Q n
    unfolding names
    IsCount-from_nodes = record {
      ids = map name count.nodes;
      listed = record { rising = names_rise; exact = λ x. (named x, has_name x) };
      counted = length-map count.nodes name ∙ count.counted;
    }

  -- ---- what blocks the instance of a node

  module _ (k : ℕ) (x : Id) (low : k < g.committed) (at : slice_get g.ids k ≡ Some x) where
    blocks_at : (j : ℕ) (y : Id) → slice_get g.ids j ≡ Some y
        → ReachesMissingNode g k j ↔ Blocks m y x
    blocks_at j y to = (
      λ (past, path). record {
        committed = (IsCommitted-iff_node m g is k x at).0 low;
        reached = (NodeReaches-iff m g is k j x y at to).0 path;
        missing = IsCommitted-not_past m g is j y to past;
      },
      λ b. (
        committed-if_missing m g is j y to b.missing,
        (NodeReaches-iff m g is k j x y at to).1 b.reached,
      ),
    )

    -- the node of what blocks the instance
    blocking_node : (y : Id) → Blocks m y x
        → (j : ℕ) × (slice_get g.ids j ≡ Some y) × ReachesMissingNode g k j
    blocking_node y b =
        let j = NodeReaches-exists m g is k x y at b.reached in
        (j.0, j.1, (blocks_at j.0 y j.1).1 b)

    -- the Id of a missing node that is reached
    blocking_id : (j : ℕ) → ReachesMissingNode g k j
        → (y : Id) × (slice_get g.ids j ≡ Some y) × Blocks m y x
    blocking_id j there =
        let y = slice_get-id_of_node g is.graph j (IsNodePath-within g is.graph k there.1.0 j
        (slice_get_within g.ids k x at) there.1.1) in
        (y.0, y.1, (blocks_at j y.0 y.1).0 there)

    one_id : (i j : ℕ) (y z : Id) → slice_get g.ids i ≡ Some y → slice_get g.ids j ≡ Some z
        → i ≡ j → y ≡ z
    one_id i j y z p q same =
        let e : Some y ≡ Some z = sym p ∙ ap (slice_get g.ids) same ∙ q in cc e

    alone_at : (j : ℕ) (y : Id) → slice_get g.ids j ≡ Some y
        → IsOnlyReached g k j ↔ BlocksAlone m y x
    alone_at j y to = (
      λ (there, only). record {
        blocks = (blocks_at j y to).0 there;
        only = λ z b.
            let i = blocking_node z b in
            one_id i.0 j z y i.1 to (only i.0 i.2);
      },
      λ a. (
        (blocks_at j y to).1 a.blocks,
        λ i there.
            let z = blocking_id i there in
            ids-is_unique g is.graph i j y (z.1 ∙ ap Some (a.only z.0 z.2)) to,
      ),
    )

    several_at : IsReached g k Several ↔ SeveralBlock m x
    several_at = (
      λ (i, j, first, second, differ).
          let y = blocking_id i first in
          let z = blocking_id j second in (
            y.0,
            z.0,
            y.2,
            z.2,
            λ same. differ (ids-is_unique g is.graph i j z.0 (y.1 ∙ ap Some same) z.1),
          ),
      λ (y, z, first, second, differ).
          let i = blocking_node y first in
          let j = blocking_node z second in
          (i.0, j.0, i.2, j.2, λ same. differ (one_id i.0 j.0 y z i.1 j.1 same)),
    )

  -- ---- counts over the map

  pub IsCount-several : (n : ℕ) → IsNodeCount (λ k. IsReached g k Several) g.committed n
      → IsCount (SeveralBlock m) n
  IsCount-several n count =
      IsCount-from_nodes (λ k. IsReached g k Several) (SeveralBlock m) (λ x s. s.2.committed)
      (λ k x low at. several_at k x low at) n count

  counts_of_node : (b : Blocker) → IsNodeBlocker g b → HasBlockerCounts m b
  counts_of_node b at = record {
    alone = IsCount-from_nodes (λ k. IsOnlyReached g k at.node) (BlocksAlone m b.id)
        (λ x a. a.blocks.committed) (λ k x low here. alone_at k x low here at.node b.id at.id)
        b.alone at.alone;
    named = IsCount-from_nodes (λ k. Contains (edges_of g k) at.node) (λ x. DependsOn m x b.id)
        (λ x d. DependsOn-committed m x b.id d)
        (λ k x low here. is.edges k at.node x b.id here at.id) b.named at.named;
  }

  pub AreBlockers-from_nodes : (bs : List Blocker) → AreNodeBlockers g bs → AreBlockers m bs
  AreBlockers-from_nodes bs are = record {
    missing = subst (IsListOf (IsMissing m)) (sym are.ids)
        (record { rising = is.graph.missing_rise; exact = is.missing });
    each = λ b h. counts_of_node b (are.each b h);
  }

-- ---- node by node

module _ (g : DependencyGraph) where
  missing_at : (i : ℕ) (x : Id) → g.committed + i < length g.ids
      → x ≡ get_or (missing_ids g) i x → slice_get g.ids (g.committed + i) ≡ Some x
  missing_at i x l read =
      slice_get-get_or g.ids (g.committed + i) x l
      ∙ ap Some (sym (read ∙ get_or-drop g.committed g.ids i x))

  -- the blocker of the next missing node
  pub IsNodeBlocker-from_counts : (i : ℕ) (alone named : List ℕ) (b : Blocker)
      → AreMissingCounts g (IsOnlyReached g) g.committed alone
      → AreMissingCounts g (λ k j. Contains (edges_of g k) j) g.committed named
      → i < length (missing_ids g) → b.id ≡ get_or (missing_ids g) i b.id
      → b.alone ≡ get_or alone i 0 → b.named ≡ get_or named i 0 → IsNodeBlocker g b
  IsNodeBlocker-from_counts i alone named b are of l id first second =
      let inside : g.committed + i < length g.ids =
      omega (arith, l, length-drop g.committed g.ids) in
      let low : i < length alone = omega (arith, inside, are.all) in
      let under : i < length named = omega (arith, inside, of.all) in
      record {
        node = g.committed + i;
        missing = omega arith;
        id = missing_at i b.id inside id;
        alone = subst (IsNodeCount (λ k. IsOnlyReached g k (g.committed + i)) g.committed)
            (sym first) (are.each i low);
        named = subst (IsNodeCount (λ k. Contains (edges_of g k) (g.committed + i)) g.committed)
            (sym second) (of.each i under);
      }

  pub missing_ids-push : (bs : List Blocker) (b : Blocker) (i : ℕ) → i < length (missing_ids g)
      → b.id ≡ get_or (missing_ids g) i b.id
      → map (λ b. b.id) bs ≡ take i (missing_ids g)
      → map (λ b. b.id) (bs ++ b ∷ []) ≡ take (i + 1) (missing_ids g)
  missing_ids-push bs b i l id ids =
      map_push (λ (c : Blocker). c.id) bs b ∙ ap₂ (λ xs x. xs ++ x ∷ []) ids id
      ∙ sym (take_more (missing_ids g) i b.id l)

  pub IsNodeBlocker-push : (bs : List Blocker) (b : Blocker)
      → ((c : Blocker) → Contains bs c → IsNodeBlocker g c) → IsNodeBlocker g b
      → (c : Blocker) → Contains (bs ++ b ∷ []) c → IsNodeBlocker g c
  IsNodeBlocker-push bs b old here c h =
      elim (Contains-push_cases bs b c h) [
        | inl before ↦ old c before
        | inr last ↦ subst (IsNodeBlocker g) last here
      ]
