-- An instance of which all edges lead to marked nodes has no other dependencies than marked ones.
use Rattle.std.proofs.Common.{◌≡◌, ◌<◌, ℕ, Bool, List, All, length, map, slice_get, Some, Contains}
use Rattle.std.proofs.Common.{refl, sym, subst, ◌∙◌, arith}
use Rattle.epx_types.proofs.Common.{All-contains, All-contains_itself, All-weaker}
use Rattle.epx_types.proofs.Common.{Contains-slice_get, Instance}
use Rattle.epx_types.specs.declared.id.Id.{Id}
use Rattle.epx_graph.proofs.Common.{DependencyGraph, IsGraph, IsGraphOf, edges_of, edges_of-within}
use Rattle.epx_graph.proofs.Common.{slice_get-dependency}
use Rattle.epx_picture.specs.PicturesAround.{with_deps_near}
use Rattle.epx_picture.specs.inner.NodeMarks.{HasMark}
use Rattle.epx_picture.proofs.NodeBoxLemmas.{slice_get-own_node}
use Rattle.epx_picture.proofs.PartLemmas.{with_deps_near-all, get_or-mark}

-- each edge leads to a node, which has a mark that is true or false
pub All-edges_within : (g : DependencyGraph) → IsGraph g → (k : ℕ) (marks : List Bool)
    (row : List ℕ) → row ≡ edges_of g k → length marks ≡ length g.ids
    → All (λ j. j < length marks) row
All-edges_within g is k marks row edges nodes = All-weaker (Contains row) (λ j. j < length marks)
    (λ j h.
    let below = edges_of-within g is k j (subst (λ (js : List ℕ). Contains js j) edges h) in
    omega (arith, nodes, below))
    row (All-contains_itself row)

-- if all edges of its node lead to marked nodes, an instance keeps all its dependencies
pub with_deps_near-marked : (m : List Instance) (g : DependencyGraph) → IsGraphOf m g
    → (near : Id → Bool)
    (marks : List Bool) → marks ≡ map near g.ids → (k : ℕ) (e : Instance)
    → slice_get m k ≡ Some e → (row : List ℕ) → row ≡ edges_of g k → All (HasMark marks) row
    → with_deps_near near e ≡ e
with_deps_near-marked m g is near marks same k e at row edges all =
    let there = Contains-slice_get m k e at in
    with_deps_near-all near e (λ d h.
    let j = slice_get-dependency m g is e.id d (e, there, refl, h) in
    let edge : Contains (edges_of g k) j.0 =
    (is.edges k j.0 e.id d (slice_get-own_node m g is k e at) j.1).1 (e, there, refl, h) in
    let mark = All-contains (HasMark marks) row j.0 all
    (subst (λ (js : List ℕ). Contains js j.0) (sym edges) edge) in
    sym (get_or-mark near g.ids marks same j.0 d j.1) ∙ mark)
