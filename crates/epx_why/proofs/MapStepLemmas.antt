-- Paths over the nodes of the graph of a map are paths of dependencies.
use Rattle.std.proofs.Common.{◌≡◌, ◌≢◌, ℕ, zero, suc, ◌+◌, ◌<◌, ◌≤◌, List, [], ◌∷◌, ◌++◌, length}
use Rattle.std.proofs.Common.{map, Contains, Option, Some, slice_get, refl, sym, ap, ap₂, subst}
use Rattle.std.proofs.Common.{◌∙◌, arith}
use Rattle.epx_types.proofs.Common.{slice_get-get_or, get_or_from_slice_get, Instance, IsCommitted}
use Rattle.epx_types.proofs.Common.{DependsOn, IsPath, DependsOn-committed}
use Rattle.epx_types.specs.declared.id.Id.{Id}
use Rattle.epx_graph.proofs.Common.{DependencyGraph, edges_of, IsGraphOf, IsNodePath}
use Rattle.epx_graph.proofs.Common.{edges_of-within}
use Rattle.epx_graph.proofs.Common.{slice_get-dependency, LeadsTo, AreLeast, distance_at}
use Rattle.epx_graph.proofs.Common.{LeadsTo-node_path}
use Rattle.epx_why.specs.Distances.{IsDistance}
use Rattle.epx_why.specs.inner.NodeWalks.{id_at}

pub id_at-is : (g : DependencyGraph) (k : ℕ) (x : Id) → slice_get g.ids k ≡ Some x → id_at g k ≡ x
id_at-is g k x at = get_or_from_slice_get g.ids k x (record { replica = 0; number = 0 }) at

pub slice_get-id_at : (g : DependencyGraph) (k : ℕ) → k < length g.ids
    → slice_get g.ids k ≡ Some (id_at g k)
slice_get-id_at g k l = slice_get-get_or g.ids k (record { replica = 0; number = 0 }) l

-- the distance of a node is the least number
pub AreLeast-fewest : (Leads : ℕ → ℕ → Type 0) (nodes : ℕ) (distances : List (Option ℕ))
    → AreLeast Leads nodes distances → (j n : ℕ) → distance_at distances j ≡ Some n → (l : ℕ)
    → Leads l j → n ≤ l
AreLeast-fewest Leads nodes distances are j n h l there =
    let found = are.least j l there in
    let one : Some found.0 ≡ Some n = sym found.2 ∙ h in
    let same : found.0 ≡ n = cc one in
    omega (arith, found.1)

pub AreLeast-known : (Leads : ℕ → ℕ → Type 0) (nodes : ℕ) (distances : List (Option ℕ))
    → AreLeast Leads nodes distances → (j n : ℕ) → Leads n j
    → ((l : ℕ) → Leads l j → n ≤ l) → distance_at distances j ≡ Some n
AreLeast-known Leads nodes distances are j n there fewest =
    let found = are.least j n there in
    let low = fewest found.0 (are.leads j found.0 found.2) in
    let same : found.0 ≡ n = omega (arith, found.1, low) in
    found.2 ∙ ap Some same

-- a path begins at a committed instance
pub IsPath-start_committed : (m : List Instance) (x : Id) (via : List Id) (y : Id)
    → IsPath m x via y → IsCommitted m x
IsPath-start_committed m x [] y path = DependsOn-committed m x y path
IsPath-start_committed m x (z ∷ via) y path = DependsOn-committed m x z path.0

module _ (m : List Instance) (g : DependencyGraph) (is : IsGraphOf m g) where
  -- an edge is a dependency
  edge_depends : (k c : ℕ) (x : Id) → slice_get g.ids k ≡ Some x → Contains (edges_of g k) c
      → DependsOn m x (id_at g c)
  edge_depends k c x at edge =
      (is.edges k c x (id_at g c) at (slice_get-id_at g c (edges_of-within g is.graph k c edge))).0
      edge

  -- a path over nodes is one of dependencies, through the Ids of its nodes
  pub IsPath-from_nodes : (k c : ℕ) (cs : List ℕ) (t : ℕ) (x y : Id) → slice_get g.ids k ≡ Some x
      → slice_get g.ids t ≡ Some y → IsNodePath (edges_of g) k (c ∷ cs) t
      → (via : List Id) × IsPath m x via y × (map (id_at g) (c ∷ cs) ≡ via ++ y ∷ [])
      × (length via ≡ length cs)
  IsPath-from_nodes k c [] t x y at to path =
      let last : id_at g c ≡ y = ap (id_at g) path.1 ∙ id_at-is g t y to in (
        [],
        subst (DependsOn m x) last (edge_depends k c x at path.0),
        ap (λ z. z ∷ []) last,
        refl,
      )
  IsPath-from_nodes k c (d ∷ cs) t x y at to path =
      let z = id_at g c in
      let here = slice_get-id_at g c (edges_of-within g is.graph k c path.0) in
      let rest = IsPath-from_nodes c d cs t z y here to path.1 in (
        z ∷ rest.0,
        (edge_depends k c x at path.0, rest.1),
        ap (λ zs. z ∷ zs) rest.2,
        ap suc rest.3,
      )

  -- a path of dependencies is one over nodes
  pub IsNodePath-from_path : (k t : ℕ) (x : Id) (via : List Id) (y : Id)
      → slice_get g.ids k ≡ Some x
      → slice_get g.ids t ≡ Some y → IsPath m x via y
      → (cs : List ℕ) × IsNodePath (edges_of g) k cs t × (map (id_at g) cs ≡ via ++ y ∷ [])
      × (length cs ≡ suc (length via))
  IsNodePath-from_path k t x [] y at to path = (
    t ∷ [],
    ((is.edges k t x y at to).1 path, refl),
    ap (λ z. z ∷ []) (id_at-is g t y to),
    refl,
  )
  IsNodePath-from_path k t x (z ∷ via) y at to path =
      let c = slice_get-dependency m g is x z path.0 in
      let rest = IsNodePath-from_path c.0 t z via y c.1 to path.1 in (
        c.0 ∷ rest.0,
        ((is.edges k c.0 x z at c.1).1 path.0, rest.1),
        ap₂ (λ w ws. w ∷ ws) (id_at-is g c.0 z c.1) rest.2,
        ap suc rest.3,
      )

  module _ (k j : ℕ) (x y : Id) (at : slice_get g.ids k ≡ Some x)
      (to : slice_get g.ids j ≡ Some y) where
    -- a path has as many steps over nodes as over dependencies
    pub LeadsTo-from_path : (via : List Id) → IsPath m x via y
        → LeadsTo (edges_of g) k (suc (length via)) j
    LeadsTo-from_path via path =
        let over = IsNodePath-from_path k j x via y at to path in
        subst (λ (n : ℕ). LeadsTo (edges_of g) k n j) over.3
        (LeadsTo-node_path (edges_of g) k over.0 j over.1)

  pub IsPath-from_leads_to : (n k j : ℕ) (x y : Id) → slice_get g.ids k ≡ Some x
      → slice_get g.ids j ≡ Some y → LeadsTo (edges_of g) k (suc n) j
      → (via : List Id) × IsPath m x via y × (length via ≡ n)
  IsPath-from_leads_to zero k j x y at to there =
      let last : id_at g there.0 ≡ y = ap (id_at g) there.2 ∙ id_at-is g j y to in
      ([], subst (DependsOn m x) last (edge_depends k there.0 x at there.1), refl)
  IsPath-from_leads_to (suc n) k j x y at to there =
      let z = id_at g there.0 in
      let here = slice_get-id_at g there.0 (edges_of-within g is.graph k there.0 there.1) in
      let rest = IsPath-from_leads_to n there.0 j z y here to there.2 in
      (z ∷ rest.0, (edge_depends k there.0 x at there.1, rest.1), ap suc rest.2)

  -- ---- distances, where `Leads` is the number of edges of a path from node k to node j, which is
  -- another one

  module _ (k j : ℕ) (x y : Id) (at : slice_get g.ids k ≡ Some x)
      (to : slice_get g.ids j ≡ Some y) (other : k ≢ j) where
    pub IsDistance-from_least : (n : ℕ) → LeadsTo (edges_of g) k n j
        → ((l : ℕ) → LeadsTo (edges_of g) k l j → n ≤ l) → IsDistance m x y n
    IsDistance-from_least zero there fewest = absurd (other there)
    IsDistance-from_least (suc n) there fewest =
        let found = IsPath-from_leads_to n k j x y at to there in
        record {
          via = found.0;
          path = found.1;
          long = omega (arith, found.2);
          fewest = λ via path.
              let most = fewest (suc (length via)) (LeadsTo-from_path k j x y at to via path) in
              omega arith;
        }

    pub LeadsTo-from_distance : (n : ℕ) → IsDistance m x y n → LeadsTo (edges_of g) k n j
        × ((l : ℕ) → LeadsTo (edges_of g) k l j → n ≤ l)
    LeadsTo-from_distance n d = (
      subst (λ (l : ℕ). LeadsTo (edges_of g) k l j) (long d.long)
          (LeadsTo-from_path k j x y at to d.via d.path),
      fewest,
    ) where
      long : length d.via + 1 ≡ n → suc (length d.via) ≡ n
      long e = omega (arith, e)

      fewest : (l : ℕ) → LeadsTo (edges_of g) k l j → n ≤ l
      fewest zero there = absurd (other there)
      fewest (suc l) there =
          let found = IsPath-from_leads_to l k j x y at to there in
          let most = d.fewest found.0 found.1 in
          omega (arith, found.2)
