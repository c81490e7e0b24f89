-- The walk by next nodes is the first of the shortest paths.
use Rattle.std.proofs.Common.{◌≡◌, inl, inr, ℕ, suc, ◌<◌, ◌≤◌, List, [], ◌∷◌, ◌++◌, length, map}
use Rattle.std.proofs.Common.{Contains, Option, Some, slice_get, refl, sym, ap, subst, subst₂, ◌∙◌}
use Rattle.std.proofs.Common.{arith, All}
use Rattle.epx_types.proofs.Common.{append_assoc, append-nil, All-nil, All-cons, UpTo, Instance}
use Rattle.epx_types.proofs.Common.{IsPath, Contains-slice_get}
use Rattle.epx_types.specs.declared.id.Id.{Id}
use Rattle.epx_graph.proofs.Common.{DependencyGraph, edges_of, IsGraph, IsGraphOf, IsNodePath}
use Rattle.epx_graph.proofs.Common.{edges_of-within, ids-is_unique, slice_get-if_committed}
use Rattle.epx_graph.proofs.Common.{NodeReaches-exists}
use Rattle.epx_graph.proofs.Common.{LeadsTo, AreDistancesTo, distance_at, LeadsTo-node_path}
use Rattle.epx_why.specs.FirstPaths.{ComesUpTo, path_ids, IsFirstPath, HasNoPath}
use Rattle.epx_why.specs.inner.NodeWalks.{id_at, IsFewest, IsNext, IsFirstWalk}
use Rattle.epx_why.specs.inner.NodeWalks.{IsFirstNodePath, IsWalkBegun}
use Rattle.epx_why.proofs.MapStepLemmas.{slice_get-id_at, IsPath-from_nodes, IsNodePath-from_path}
use Rattle.epx_why.proofs.MapStepLemmas.{LeadsTo-from_path}
use Rattle.epx_why.proofs.MapStepLemmas.{AreLeast-fewest, IsPath-start_committed}

module _ (g : DependencyGraph) (graph : IsGraph g) (t : ℕ) (distances : List (Option ℕ))
    (known : AreDistancesTo g t distances) where
  -- a node is at the end if its distance is 0
  pub IsFirstWalk-at_end : (k : ℕ) → distance_at distances k ≡ Some 0 → IsFirstWalk g t 0 k []
  IsFirstWalk-at_end k at = record {
    path = known.leads k 0 at;
    long = refl;
    first = λ os path long. tt;
  }

  -- the targets of a node with a greater distance
  pub IsFewest-edges_of : (k n : ℕ) → distance_at distances k ≡ Some (suc n)
      → IsFewest distances (edges_of g k) n
  IsFewest-edges_of k n at = record {
    some =
        let there = known.leads k (suc n) at in
        let found = known.least there.0 n there.2 in
        let low = fewest there.0 found.0 there.1 found.2 in
        let same : found.0 ≡ n = omega (arith, found.1, low) in
        (there.0, there.1, found.2 ∙ ap Some same);
    fewest = fewest;
  } where
    fewest : (c l : ℕ) → Contains (edges_of g k) c → distance_at distances c ≡ Some l → n ≤ l
    fewest c l edge has =
        let low = AreLeast-fewest (λ i j. LeadsTo (edges_of g) j i t) (length g.ids) distances
        known k (suc n) at (suc l) (c, edge, known.leads c l has) in
        omega arith

  -- the targets of a node that lead to the end in some steps have no greater distance
  pub IsFirstWalk-step : (k n c : ℕ) (cs : List ℕ) → IsFewest distances (edges_of g k) n
      → IsNext g distances (edges_of g k) n c → IsFirstWalk g t n c cs
      → IsFirstWalk g t (suc n) k (c ∷ cs)
  IsFirstWalk-step k n c cs few next walk = record {
    path = (next.edge, walk.path);
    long = ap suc walk.long;
    first = first;
  } where
    first : (os : List ℕ) → IsNodePath (edges_of g) k os t → length os ≡ suc n
        → ComesUpTo (map (id_at g) (c ∷ cs)) (map (id_at g) os)
    first [] path long = absurd (omega arith)
    first (o ∷ os) path long =
        let rest : length os ≡ n = omega arith in
        let there = subst (λ (l : ℕ). LeadsTo (edges_of g) o l t) rest
        (LeadsTo-node_path (edges_of g) o os t path.1) in
        let found = known.least o n there in
        let low = few.fewest o found.0 path.0 found.2 in
        let same : found.0 ≡ n = omega (arith, found.1, low) in
        by os path rest (next.least o path.0 (found.2 ∙ ap Some same))
      where
        by : (os : List ℕ) → Contains (edges_of g k) o × IsNodePath (edges_of g) o os t
            → length os ≡ n → UpTo (id_at g c) (id_at g o)
            → ComesUpTo (id_at g c ∷ map (id_at g) cs) (id_at g o ∷ map (id_at g) os)
        by os path rest (inr below) = inl below
        by os path rest (inl tied) =
            let same : c ≡ o = ids-is_unique g graph c o (id_at g c)
            (slice_get-id_at g c (edges_of-within g graph k c next.edge))
            (slice_get-id_at g o (edges_of-within g graph k o path.0) ∙ ap Some (sym tied)) in
            inr (
              tied,
              walk.first os
                  (subst (λ (q : ℕ). IsNodePath (edges_of g) q os t) (sym same) path.1) rest,
            )

  -- ---- node by node

  pub IsWalkBegun-first : (k n c : ℕ) → IsFewest distances (edges_of g k) n
      → IsNext g distances (edges_of g k) n c → IsWalkBegun g distances t k (suc n) (c ∷ []) c n
  IsWalkBegun-first k n c few next = record {
    distance = next.distance;
    goes_on = λ rest walk. IsFirstWalk-step k n c rest few next walk;
  }

  pub IsWalkBegun-step : (k steps : ℕ) (nodes : List ℕ) (last left c : ℕ)
      → IsWalkBegun g distances t k steps nodes last (suc left)
      → IsNext g distances (edges_of g last) left c
      → IsWalkBegun g distances t k steps (nodes ++ c ∷ []) c left
  IsWalkBegun-step k steps nodes last left c begun next = record {
    distance = next.distance;
    goes_on = λ rest walk.
        subst (IsFirstWalk g t steps k) (sym (append_assoc nodes (c ∷ []) rest))
        (begun.goes_on (c ∷ rest)
        (IsFirstWalk-step last left c rest (IsFewest-edges_of last left begun.distance) next walk));
  }

  pub IsFirstNodePath-at_end : (k n : ℕ) (nodes : List ℕ) (last : ℕ)
      → IsFewest distances (edges_of g k) n
      → IsWalkBegun g distances t k (suc n) nodes last 0 → IsFirstNodePath g t k nodes
  IsFirstNodePath-at_end k n nodes last few begun = record {
    fewest = n;
    walk = subst (IsFirstWalk g t (suc n) k) (append-nil nodes)
        (begun.goes_on [] (IsFirstWalk-at_end last begun.distance));
    shortest = λ l there.
        let found = known.least there.0 l there.2 in
        let low = few.fewest there.0 found.0 there.1 found.2 in
        omega (arith, found.1);
  }

-- ---- over the map

module _ (m : List Instance) (g : DependencyGraph) (is : IsGraphOf m g) (k t : ℕ) (x y : Id)
    (at : slice_get g.ids k ≡ Some x) (to : slice_get g.ids t ≡ Some y) where
  pub IsFirstPath-from_nodes : (cs : List ℕ) → IsFirstNodePath g t k cs
      → (via : List Id) × IsFirstPath m x via y × (x ∷ map (id_at g) cs ≡ path_ids x via y)
  IsFirstPath-from_nodes [] p = absurd (omega (arith, p.walk.long))
  IsFirstPath-from_nodes (c ∷ cs) p =
      let found = IsPath-from_nodes m g is k c cs t x y at to p.walk.path in
      let via = found.0 in (
        via,
        record {
          path = found.1;
          shortest = λ other path.
              let low = p.shortest (length other)
              (LeadsTo-from_path m g is k t x y at to other path) in
              omega (arith, found.3, p.walk.long);
          first = λ other path long.
              let over = IsNodePath-from_path m g is k t x other y at to path in
              let low = p.walk.first over.0 over.1 (omega (arith, over.3, found.3, p.walk.long)) in
              inr (refl, subst₂ ComesUpTo found.2 over.2 low);
        },
        ap (λ zs. x ∷ zs) found.2,
      )

  pub HasNoPath-not_reached : ((n : ℕ) → ¬ LeadsTo (edges_of g) k (suc n) t) → HasNoPath m x y
  HasNoPath-not_reached none via path =
      none (length via) (LeadsTo-from_path m g is k t x y at to via path)

  pub IsFirstNodePath-within : (cs : List ℕ) → IsFirstNodePath g t k cs
      → All (λ c. c < length g.ids) cs
  IsFirstNodePath-within cs p = within k cs p.walk.path where
    within : (k : ℕ) (cs : List ℕ) → IsNodePath (edges_of g) k cs t
        → All (λ c. c < length g.ids) cs
    within k [] path = All-nil (λ c. c < length g.ids)
    within k (c ∷ cs) path =
        All-cons (λ c. c < length g.ids) c cs (edges_of-within g is.graph k c path.0)
        (within c cs path.1)

-- an Id without a node is on no path
module _ (m : List Instance) (g : DependencyGraph) (is : IsGraphOf m g) (x y : Id) where
  path_start : (via : List Id) → IsPath m x via y
      → (k : ℕ) × (k < g.committed) × (slice_get g.ids k ≡ Some x)
  path_start via path = slice_get-if_committed m g is x (IsPath-start_committed m x via y path)

  pub HasNoPath-no_start : ¬ Contains g.ids x → HasNoPath m x y
  HasNoPath-no_start none via path =
      let k = path_start via path in none (Contains-slice_get g.ids k.0 x k.2)

  pub HasNoPath-no_end : ¬ Contains g.ids y → HasNoPath m x y
  HasNoPath-no_end none via path =
      let k = path_start via path in
      let j = NodeReaches-exists m g is k.0 x y k.2 (inr (via, path)) in
      none (Contains-slice_get g.ids j.0 y j.1)
