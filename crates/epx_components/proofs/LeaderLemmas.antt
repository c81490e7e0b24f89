-- The least node of each component, from the last node down.
use Rattle.std.proofs.Common.{◌≡◌, ℕ, ◌<◌, ◌≤◌, List, length, get_or, sym, ap, arith}
use Rattle.epx_components.specs.NodeComponents.{IsNodeLeader}
use Rattle.epx_components.specs.between.Partitions.{ComponentParts, IsPartition, component_of}
use Rattle.epx_components.specs.between.Partitions.{number_for}
use Rattle.epx_components.proofs.NodePathLemmas.{NodeReaches-falls, NodeReaches-within}

-- the least of the nodes from start on in each component
pub record AreLeadersFrom (p : ComponentParts) (leaders : List ℕ) (start : ℕ) : Type 0 where
  pub least : (k : ℕ) → start ≤ k → k < length p.component → number_for p leaders k ≤ k
  pub member : (k : ℕ) → start ≤ k → k < length p.component
      → component_of p (number_for p leaders k) ≡ component_of p k

pub IsNodeLeader-from_leaders : (edges : ℕ → List ℕ) (p : ComponentParts) (leaders : List ℕ)
    → IsPartition edges p
    → AreLeadersFrom p leaders 0 → (k : ℕ) → k < length p.component
    → IsNodeLeader edges k (number_for p leaders k)
IsNodeLeader-from_leaders edges p leaders is all k l =
    let low = all.least k (omega arith) l in
    let same = all.member k (omega arith) l in
    record {
      member = (is.joined k _ l (omega arith) (sym same), is.joined _ k (omega arith) l same);
      least = λ j h.
          let e : component_of p j ≡ component_of p k =
          omega (
            arith,
            NodeReaches-falls edges p.component is.falls k j h.0,
            NodeReaches-falls edges p.component is.falls j k h.1,
          ) in
          omega (
            arith,
            all.least j (omega arith)
                (NodeReaches-within edges (length p.component) is.within k j l h.0),
            ap (λ c. get_or leaders c 0) e,
          );
    }
