-- The values of a component are those of its nodes.
use Rattle.std.proofs.Common.{◌≡◌, ◌<◌, ◌↔◌, ℕ, List, Bool, map, length, get_or, slice_get, Some}
use Rattle.std.proofs.Common.{sym, subst, ap, ◌∙◌, arith, IsTrue}
use Rattle.std.proofs.lemmas.List.{get_or-map}
use Rattle.epx_types.proofs.Common.{slice_get_within, get_or_from_slice_get, slice_get-from_map}
use Rattle.epx_graph.proofs.Common.{DependencyGraph, edges_of}
use Rattle.epx_components.specs.declared.node_ranks.NodeRank.{NodeRank}
use Rattle.epx_components.specs.NodeComponents.{IsNodeLeader}
use Rattle.epx_components.specs.between.NodeDepths.{IsNodeDepth}
use Rattle.epx_components.specs.between.MissingNodes.{ReachesMissing}
use Rattle.epx_components.specs.between.Partitions.{ComponentParts, number_for, mark_for}
use Rattle.epx_components.specs.between.NodeRanks.{IsNodeRank, node_rank_in, node_ranks_in}

pub IsNodeLeader-by_node : (edges : ℕ → List ℕ) (p : ComponentParts) (leaders : List ℕ) (n : ℕ)
    → length p.component ≡ n → ((k : ℕ) → k < n → IsNodeLeader edges k (number_for p leaders k))
    → (k : ℕ) → k < n → IsNodeLeader edges k
    (get_or (map (λ c. get_or leaders c 0) p.component) k 0)
IsNodeLeader-by_node edges p leaders n len each k l =
    subst (IsNodeLeader edges k)
    (sym (get_or-map (λ (c : ℕ). get_or leaders c 0) p.component k 0 0 (omega arith)))
    (each k l)

pub IsNodeRank-by_node : (g : DependencyGraph) (p : ComponentParts) (leaders depths : List ℕ)
    (marks : List Bool)
    → length p.component ≡ length g.ids
    → ((k : ℕ) → k < length g.ids → IsNodeLeader (edges_of g) k (number_for p leaders k))
    → ((k : ℕ) → k < length g.ids → IsNodeDepth (edges_of g) k (number_for p depths k))
    → ((k : ℕ) → k < length g.ids → IsTrue (mark_for p marks k)
    ↔ ReachesMissing (edges_of g) g.committed k) → (k : ℕ) (s : NodeRank)
    → slice_get (node_ranks_in p.component leaders depths marks) k ≡ Some s → IsNodeRank g k s
IsNodeRank-by_node g p leaders depths marks len leader depth mark k s at =
    let c = slice_get-from_map (node_rank_in leaders depths marks) p.component k s at in
    let l : k < length g.ids = omega (arith, slice_get_within p.component k c.0 c.1) in
    let own : get_or p.component k 0 ≡ c.0 = get_or_from_slice_get p.component k c.0 0 c.1 in
    subst (IsNodeRank g k) (ap (node_rank_in leaders depths marks) own ∙ c.2)
    record { leader = leader k l; depth = depth k l; missing = mark k l }
