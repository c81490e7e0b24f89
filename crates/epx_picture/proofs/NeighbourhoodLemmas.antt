-- What lies within some steps of an instance, from the nodes within as many steps of its node.
use Rattle.std.proofs.Common.{◌≡◌, inl, inr, ℕ, zero, suc, ◌<◌, Bool, false, List, length}
use Rattle.std.proofs.Common.{get_or, map, replicate, slice_get, Some, Contains, refl, sym}
use Rattle.std.proofs.Common.{ap, subst, ◌∙◌, arith, All}
use Rattle.std.proofs.lemmas.List.{get_or-map, same_lists}
use Rattle.epx_types.proofs.Common.{length-map, length-replicate, get_or_default}
use Rattle.epx_types.proofs.Common.{get_or_from_slice_get}
use Rattle.epx_types.proofs.Common.{Contains-slice_get, Instance}
use Rattle.epx_types.proofs.Common.{DependsOn-committed, All-weaker, All-contains_itself}
use Rattle.epx_types.specs.declared.id.Id.{Id}
use Rattle.epx_graph.proofs.Common.{DependencyGraph, IsGraphOf, edges_of-from_committed}
use Rattle.epx_graph.proofs.Common.{edges_of-within}
use Rattle.epx_graph.proofs.Common.{slice_get-id_of_node, ids-is_unique, slice_get-if_committed}
use Rattle.epx_graph.proofs.Common.{slice_get-dependency}
use Rattle.epx_picture.specs.Neighbourhoods.{IsStep, IsWithinSteps, IsWithinTest}
use Rattle.epx_picture.specs.inner.NodeMarks.{IsNodeStep, IsNodeWithin, HasMark, AreMarksWithin}
use Rattle.epx_picture.proofs.BoolLemmas.{IsTrue-same}
use Rattle.epx_picture.proofs.NodeMarkLemmas.{HasMark-none}

module _ (m : List Instance) (g : DependencyGraph) (is : IsGraphOf m g) where
  -- ---- steps

  -- both ends of a step have a node
  first_node : (x y : Id) → IsStep m x y → (k : ℕ) × (slice_get g.ids k ≡ Some x)
  first_node x y (inl d) = let k = slice_get-if_committed m g is x (DependsOn-committed m x y d) in
      (k.0, k.2)
  first_node x y (inr d) = slice_get-dependency m g is y x d

  -- a step begins at a node
  step_start : (k j : ℕ) → IsNodeStep g k j → k < length g.ids
  step_start k j (inl edge) =
      omega (arith, edges_of-from_committed g is.graph k j edge, is.graph.committed_nodes)
  step_start k j (inr edge) = edges_of-within g is.graph j k edge

  module _ (k j : ℕ) (x y : Id) (at : slice_get g.ids k ≡ Some x) (to : slice_get g.ids j ≡ Some y)
    where
      -- a step over nodes is one over their instances, and the other way round
      step_from_node : IsNodeStep g k j → IsStep m x y
      step_from_node (inl edge) = inl ((is.edges k j x y at to).0 edge)
      step_from_node (inr edge) = inr ((is.edges j k y x to at).0 edge)

      node_from_step : IsStep m x y → IsNodeStep g k j
      node_from_step (inl d) = inl ((is.edges k j x y at to).1 d)
      node_from_step (inr d) = inr ((is.edges j k y x to at).1 d)

  -- what lies within n steps over nodes lies within n steps, and the other way round
  within_from_nodes : (n k j : ℕ) (x y : Id) → slice_get g.ids k ≡ Some x
      → slice_get g.ids j ≡ Some y → IsNodeWithin g n k j → IsWithinSteps m n x y
  within_from_nodes zero k j x y at to same =
      let one : Some x ≡ Some y = sym at ∙ ap (slice_get g.ids) same ∙ to in cc one
  within_from_nodes (suc n) k j x y at to (inl near) =
      inl (within_from_nodes n k j x y at to near)
  within_from_nodes (suc n) k j x y at to (inr last) =
      let i = last.0 in
      let z = slice_get-id_of_node g is.graph i (step_start i j last.2) in
      inr (
        z.0,
        within_from_nodes n k i x z.0 at z.1 last.1,
        step_from_node i j z.0 y z.1 to last.2,
      )

  nodes_from_within : (n k j : ℕ) (x y : Id) → slice_get g.ids k ≡ Some x
      → slice_get g.ids j ≡ Some y → IsWithinSteps m n x y → IsNodeWithin g n k j
  nodes_from_within zero k j x y at to same =
      ids-is_unique g is.graph k j y (at ∙ ap Some same) to
  nodes_from_within (suc n) k j x y at to (inl near) =
      inl (nodes_from_within n k j x y at to near)
  nodes_from_within (suc n) k j x y at to (inr last) =
      let i = first_node last.0 y last.2 in
      inr (
        i.0,
        nodes_from_within n k i.0 x last.0 at i.1 last.1,
        node_from_step i.0 j last.0 y i.1 to last.2,
      )

  -- from an Id without a node no step leads on
  within_itself : (x : Id) → ¬ Contains g.ids x → (n : ℕ) (y : Id) → IsWithinSteps m n x y → x ≡ y
  within_itself x outside zero y same = same
  within_itself x outside (suc n) y (inl near) = within_itself x outside n y near
  within_itself x outside (suc n) y (inr last) =
      let same = within_itself x outside n last.0 last.1 in
      let k = first_node last.0 y last.2 in
      absurd (outside (subst (Contains g.ids) (sym same) (Contains-slice_get g.ids k.0 last.0 k.1)))

  -- ---- marks

  module _ (n : ℕ) (x : Id) (near : Id → Bool) (exact : IsWithinTest m n x near) where
    -- marks of exactly the nodes within n steps are what the test says of each node
    same_test : (marks : List Bool) → length marks ≡ length g.ids
        → ((j : ℕ) (y : Id) → slice_get g.ids j ≡ Some y → HasMark marks j → IsWithinSteps m n x y)
        → ((j : ℕ) (y : Id) → slice_get g.ids j ≡ Some y → IsWithinSteps m n x y → HasMark marks j)
        → marks ≡ map near g.ids
    same_test marks nodes there back =
        same_lists marks (map near g.ids) (nodes ∙ sym (length-map g.ids near)) (λ j d l.
        let y = slice_get-id_of_node g is.graph j (omega (arith, nodes, l)) in
        let mapped : get_or (map near g.ids) j d ≡ near y.0 =
        get_or-map near g.ids j y.0 d (omega (arith, nodes, l))
        ∙ ap near (get_or_from_slice_get g.ids j y.0 y.0 y.1) in
        get_or_default marks j d false l
        ∙ IsTrue-same (get_or marks j false) (near y.0)
        (λ h. (exact y.0).1 (there j y.0 y.1 h)) (λ h. back j y.0 y.1 ((exact y.0).0 h))
        ∙ sym mapped)

    -- the marks of the nodes within n steps of the instance's node
    pub AreMarksWithin-of_node : (k : ℕ) → slice_get g.ids k ≡ Some x → (marks : List Bool)
        → AreMarksWithin g n k marks → marks ≡ map near g.ids
    AreMarksWithin-of_node k at marks are = same_test marks are.nodes
        (λ j y to h. within_from_nodes n k j x y at to ((are.exact j).0 h))
        (λ j y to h. (are.exact j).1 (nodes_from_within n k j x y at to h))

    -- an instance without a node
    pub replicate-no_node : ¬ Contains g.ids x → replicate (length g.ids) false ≡ map near g.ids
    replicate-no_node outside = same_test (replicate (length g.ids) false)
        (length-replicate (length g.ids) false)
        (λ j y to h. absurd (HasMark-none (length g.ids) j h))
        (λ j y to h. absurd (outside (subst (Contains g.ids)
        (sym (within_itself x outside n y h)) (Contains-slice_get g.ids j y to))))

-- the dependencies of an instance have nodes
pub All-deps_have_nodes : (m : List Instance) (g : DependencyGraph) → IsGraphOf m g → (e : Instance)
    → Contains m e → All (Contains g.ids) e.deps
All-deps_have_nodes m g is e there = All-weaker (Contains e.deps) (Contains g.ids)
    (λ d h.
    let j = slice_get-dependency m g is e.id d (e, there, refl, h) in
    Contains-slice_get g.ids j.0 d j.1)
    e.deps (All-contains_itself e.deps)
