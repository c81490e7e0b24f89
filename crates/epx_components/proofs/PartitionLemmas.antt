-- Facts of a partition node by node, and after a write for one component.
use Rattle.std.proofs.Common.{◌≡◌, ◌≢◌, ◌⊎◌, inl, inr, ⊎_elim, ℕ, ◌<◌, List, length, get_or, set}
use Rattle.std.proofs.Common.{ap, ◌∙◌}
use Rattle.epx_types.proofs.Common.{cases_eq, get_or-set_same, get_or-set_other, All-get_or}
use Rattle.epx_components.specs.between.Partitions.{ComponentParts, IsPartition, component_of}
use Rattle.epx_components.specs.between.Partitions.{node_at}

pub node_at-within : (edges : ℕ → List ℕ) (p : ComponentParts) → IsPartition edges p → (i : ℕ)
    → i < length p.order → node_at p i < length p.component
node_at-within edges p is i l = All-get_or (λ k. k < length p.component) p.order i 0 l is.nodes

pub component_of-within : (edges : ℕ → List ℕ) (p : ComponentParts) → IsPartition edges p → (k : ℕ)
    → k < length p.component → component_of p k < p.count
component_of-within edges p is k l = All-get_or (λ c. c < p.count) p.component k 0 l is.counted

-- the value of a node after a write for the component of b
pub get_or-set_component : {A : Type 0} (none : A) (p : ComponentParts) (xs : List A) (b : ℕ)
    (x : A)
    → component_of p b < length xs → (k : ℕ)
    → ((component_of p k ≡ component_of p b)
    × (get_or (set xs (component_of p b) x) (component_of p k) none ≡ x))
    ⊎ ((component_of p k ≢ component_of p b)
    × (get_or (set xs (component_of p b) x) (component_of p k) none
    ≡ get_or xs (component_of p k) none))
get_or-set_component none p xs b x l k =
    let own = component_of p b in
    ⊎_elim
    (λ (e : component_of p k ≡ own). inl
    (e, ap (λ c. get_or (set xs own x) c none) e ∙ get_or-set_same xs own x none l))
    (λ (ne : component_of p k ≢ own). inr
    (ne, get_or-set_other xs own (component_of p k) x none ne))
    (cases_eq (component_of p k) own)
