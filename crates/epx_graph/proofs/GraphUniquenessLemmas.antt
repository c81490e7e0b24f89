-- A map has at most one graph.
use Rattle.std.proofs.Common.{◌≡◌, ℕ, ◌<◌, List, [], length, slice_get, Contains, sym, ap, ◌∙◌}
use Rattle.std.proofs.Common.{◌++◌, arith}
use Rattle.epx_types.proofs.Common.{take-append-drop, get_or_default, Instance, AllPairs-is_unique}
use Rattle.epx_types.proofs.Common.{IsRising-is_unique}
use Rattle.std.proofs.lemmas.List.{same_lists}
use Rattle.epx_graph.specs.Graphs.{DependencyGraph, edges_of, committed_ids, missing_ids}
use Rattle.epx_graph.specs.GraphOf.{IsGraphOf}
use Rattle.epx_graph.specs.GraphLaws.{GraphIsUnique}
use Rattle.epx_graph.proofs.GraphNodeLemmas.{edges_of-within, slice_get-id_of_node}
use Rattle.epx_graph.proofs.MapPathLemmas.{committed-count}

module _ (m : List Instance) (g h : DependencyGraph) (p : IsGraphOf m g) (q : IsGraphOf m h) where
  one_ids : g.ids ≡ h.ids
  one_ids =
      let missing = IsRising-is_unique (missing_ids g) (missing_ids h) p.graph.missing_rise
      q.graph.missing_rise (λ x c. (q.missing x).1 ((p.missing x).0 c))
      (λ x c. (p.missing x).1 ((q.missing x).0 c)) in
      sym (take-append-drop g.committed g.ids) ∙ ap (λ xs. xs ++ missing_ids g)
      (p.committed ∙ sym q.committed) ∙ ap (λ ys. committed_ids h ++ ys) missing
      ∙ take-append-drop h.committed h.ids

  edge_there : (k j : ℕ) → Contains (edges_of g k) j → k < length g.ids → Contains (edges_of h k) j
  edge_there k j c l =
      let x = slice_get-id_of_node g p.graph k l in
      let y = slice_get-id_of_node g p.graph j (edges_of-within g p.graph k j c) in
      (q.edges k j x.0 y.0 (ap (λ ids. slice_get ids k) (sym one_ids) ∙ x.1)
      (ap (λ ids. slice_get ids j) (sym one_ids) ∙ y.1)).1 ((p.edges k j x.0 y.0 x.1 y.1).0 c)

one_row : (m : List Instance) (g h : DependencyGraph) (p : IsGraphOf m g) (q : IsGraphOf m h)
    (k : ℕ) → k < length g.ids → edges_of g k ≡ edges_of h k
one_row m g h p q k l =
    AllPairs-is_unique (λ i j. i < j) (λ i less. absurd (omega arith))
    (λ a b c less more. omega arith)
    (edges_of g k) (edges_of h k) (p.graph.edges_rise k) (q.graph.edges_rise k)
    (λ j c. edge_there m g h p q k j c l)
    (λ j c. edge_there m h g q p k j c (omega (arith, ap length (one_ids m g h p q))))

pub GraphIsUnique-holds : GraphIsUnique
GraphIsUnique-holds m g h p q =
    let ids = one_ids m g h p q in
    let committed : g.committed ≡ h.committed =
    committed-count m g p ∙ sym (committed-count m h q) in
    let long = ap length ids in
    let edges : g.edges ≡ h.edges = same_lists g.edges h.edges
    (omega (arith, p.graph.edge_lists, q.graph.edge_lists)) (λ k d l.
    get_or_default g.edges k d [] l ∙ one_row m g h p q k (omega (arith, p.graph.edge_lists))
    ∙ sym (get_or_default h.edges k d []
    (omega (arith, p.graph.edge_lists, q.graph.edge_lists)))) in
    λ i. record { ids = ids i; committed = committed i; edges = edges i }
