-- What the components of a partition have, each with what the components below it give.
use Rattle.std.specs.Prelude.{◌≡◌, ◌≢◌, ◌↔◌, ◌⊎◌, ℕ, ◌<◌, List, length, slice_index}
use Rattle.epx_components.specs.between.Partitions.{ComponentParts, component_of, node_at}

-- one of the first n targets is in a component other than `own`, and P holds of that component
abbrev pub LeadsOut : List ℕ → ℕ → List ℕ → ℕ → (ℕ → Type 0) → Type 0
LeadsOut component own targets n P = (i : ℕ) × (i < n)
    × (slice_index component (slice_index targets i) ≢ own)
    × P (slice_index component (slice_index targets i))

-- one of the first n nodes of the order is in component c and has an edge to another component, of
-- which P holds
abbrev pub LeadsDown : (ℕ → List ℕ) → ComponentParts → ℕ → (ℕ → Type 0) → ℕ → Type 0
LeadsDown edges p n P c = (q : ℕ) × (q < n) × (component_of p (node_at p q) ≡ c)
    × LeadsOut p.component c (edges (node_at p q)) (length (edges (node_at p q))) P

-- `Has` holds of a component exactly if `First` does, or an edge of one of its nodes among the
-- first n of the order leads to another component, of which `Gives` holds
abbrev pub AreCollected : (ℕ → List ℕ) → ComponentParts → ℕ → (ℕ → Type 0) → (ℕ → Type 0)
    → (ℕ → Type 0) → Type 0
AreCollected edges p n First Gives Has = (c : ℕ)
    → Has c ↔ (First c ⊎ LeadsDown edges p n Gives c)
