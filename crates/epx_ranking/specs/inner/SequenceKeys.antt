-- The sequence keys of the nodes of a list, compared inside each component.
use Rattle.std.specs.Prelude.{◌≡◌, ◌⊎◌, ℕ, ◌<◌, true, Bool, List, length, slice_get, slice_index}
use Rattle.std.specs.Prelude.{Option, Some, None, get_or, IsTrue}
use Rattle.std.specs.Ordering.{nat_cmp, ordering_then, is_lt}
use Rattle.std.specs.declared.cmp.Ordering.{Ordering}
use Rattle.epx_types.specs.Ids.{id_cmp}
use Rattle.epx_types.specs.Instances.{Instance}
use Rattle.epx_ranking.specs.declared.order_fault.OrderFault.{OrderFault}
use Rattle.epx_ranking.specs.declared.order_fault.OrderFault.TheVariants.{Memory, Stranger, Repeat}
use Rattle.epx_ranking.specs.declared.order_fault.OrderFault.TheVariants.{Missing, Early, Sequence}
use Rattle.epx_ranking.specs.declared.check.sequence_key.SequenceKey.{SequenceKey}
use Rattle.epx_components.specs.between.Partitions.{ComponentParts, component_of, number_for}
use Rattle.epx_components.specs.between.ReadyMarks.{is_marked}

-- what decides the position of an instance inside its component: its sequence number, then its Id
abbrev pub sequence_key_of : Instance → SequenceKey
sequence_key_of e = record { seq = e.seq; id = e.id }

-- by sequence number, then by Id
abbrev pub sequence_key_cmp : SequenceKey → SequenceKey → Ordering
sequence_key_cmp a b = ordering_then (nat_cmp a.seq b.seq) (id_cmp a.id b.id)

-- there is another key, and this one is less
abbrev pub ComesBefore : SequenceKey → Option SequenceKey → Type 0
ComesBefore key_of_node None = ⊥
ComesBefore key_of_node (Some last) = is_lt (sequence_key_cmp key_of_node last) ≡ true

-- there is another key, and this one is greater
abbrev pub ComesAfter : SequenceKey → Option SequenceKey → Type 0
ComesAfter key_of_node None = ⊥
ComesAfter key_of_node (Some first) = is_lt (sequence_key_cmp first key_of_node) ≡ true

-- the key of a node's component, from a list with a key or None for each component
abbrev pub key_for : ComponentParts → List (Option SequenceKey) → ℕ → Option SequenceKey
key_for p keys k = get_or keys (component_of p k) None

-- for each component, the least sequence key of its unmarked nodes among the first n nodes, or None
pub record AreLeftOut (m : List Instance) (p : ComponentParts) (marks : List Bool) (n : ℕ)
    (left_out : List (Option SequenceKey)) : Type 0 where
  pub whole : length left_out ≡ p.count
  pub from : (k : ℕ) (t : SequenceKey) → key_for p left_out k ≡ Some t
      → (j : ℕ) × (e : Instance) × (j < n) × (¬ IsTrue (is_marked marks j))
      × (component_of p j ≡ component_of p k) × (slice_get m j ≡ Some e)
      × (sequence_key_of e ≡ t)
  pub under : (j : ℕ) (e : Instance) → j < n → ¬ IsTrue (is_marked marks j)
      → slice_get m j ≡ Some e → (t : SequenceKey) × (key_for p left_out j ≡ Some t)
      × ¬ (is_lt (sequence_key_cmp (sequence_key_of e) t) ≡ true)

-- the sequence key of the instance at position k of the map is less than that of the instance at
-- position j
abbrev pub SequenceKeyBefore : List Instance → ℕ → ℕ → Type 0
SequenceKeyBefore m k j = (d e : Instance) × (slice_get m k ≡ Some d) × (slice_get m j ≡ Some e)
    × (is_lt (sequence_key_cmp (sequence_key_of d) (sequence_key_of e)) ≡ true)

-- a component below that of the node at position i has a later end
abbrev pub IsNodeEarlyAt : ComponentParts → List ℕ → List ℕ → ℕ → Type 0
IsNodeEarlyAt p below nodes i = i < number_for p below (slice_index nodes i)

-- an earlier position has a node of the same component with a greater sequence key
abbrev pub IsNodeOvertakenAt : List Instance → ComponentParts → List ℕ → ℕ → Type 0
IsNodeOvertakenAt m p nodes i = (j : ℕ) × (j < i)
    × (component_of p (slice_index nodes j) ≡ component_of p (slice_index nodes i))
    × SequenceKeyBefore m (slice_index nodes i) (slice_index nodes j)

-- the node at position i has a greater sequence key than one that its component leaves out
abbrev pub IsNodeAfterGapAt : List Instance → ComponentParts → List (Option SequenceKey) → List ℕ
    → ℕ → Type 0
IsNodeAfterGapAt m p left_out nodes i = (e : Instance)
    × (slice_get m (slice_index nodes i) ≡ Some e)
    × ComesAfter (sequence_key_of e) (key_for p left_out (slice_index nodes i))

-- the node at position i is out of sequence in its component: a member with a greater sequence key
-- is listed earlier, or one with a lesser key is left out
abbrev pub IsNodeOutOfSequenceAt : List Instance → ComponentParts → List (Option SequenceKey)
    → List ℕ → ℕ → Type 0
IsNodeOutOfSequenceAt m p left_out nodes i = IsNodeOvertakenAt m p nodes i
    ⊎ IsNodeAfterGapAt m p left_out nodes i

-- none of the first n positions is early or out of sequence
abbrev pub AreNodesInOrder : List Instance → ComponentParts → List (Option SequenceKey) → List ℕ
    → List ℕ → ℕ → Type 0
AreNodesInOrder m p left_out below nodes n = (i : ℕ) → i < n
    → ¬ IsNodeEarlyAt p below nodes i × ¬ IsNodeOutOfSequenceAt m p left_out nodes i

-- the least position where the order is wrong
abbrev pub IsNodeFault : List Instance → ComponentParts → List (Option SequenceKey) → List ℕ
    → List ℕ → OrderFault → Type 0
IsNodeFault m p left_out below nodes Memory = Unit {0}
IsNodeFault m p left_out below nodes (Stranger i) = ⊥
IsNodeFault m p left_out below nodes (Repeat i) = ⊥
IsNodeFault m p left_out below nodes (Missing x) = ⊥
IsNodeFault m p left_out below nodes (Early i) = (i < length nodes)
    × IsNodeEarlyAt p below nodes i × AreNodesInOrder m p left_out below nodes i
IsNodeFault m p left_out below nodes (Sequence i) = (i < length nodes)
    × IsNodeOutOfSequenceAt m p left_out nodes i × ¬ IsNodeEarlyAt p below nodes i
    × AreNodesInOrder m p left_out below nodes i
