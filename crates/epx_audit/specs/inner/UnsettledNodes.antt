-- Nodes that are not found to be related to each node that shares a doubtful key with them.
use Rattle.std.specs.Prelude.{◌≡◌, ◌⊎◌, ℕ, ◌-◌, ◌<◌, ◌≤◌, List, Bool, true, false, length}
use Rattle.std.specs.Prelude.{slice_index_or, Contains, IsTrue}
use Rattle.epx_graph.specs.NodePaths.{NodeReaches}
use Rattle.epx_components.specs.between.ReadyMarks.{is_marked}
use Rattle.epx_audit.specs.declared.doubtful_touches.DoubtfulTouch.{DoubtfulTouch}

-- the touch of a doubtful key at an index of a list; past its end, a read of key 0 by node 0
abbrev pub doubtful_at : List DoubtfulTouch → ℕ → DoubtfulTouch
doubtful_at touches i = slice_index_or touches i (record { key = 0; node = 0; writes = false })

-- each touch is of one of this many nodes
abbrev pub AreTouchesOf : ℕ → List DoubtfulTouch → Type 0
AreTouchesOf nodes touches = (t : DoubtfulTouch) → Contains touches t → t.node < nodes

-- the first n touches are by rising key
abbrev pub TouchKeysRise : List DoubtfulTouch → ℕ → Type 0
TouchKeysRise touches n = (i j : ℕ) → i < j → j < n
    → (doubtful_at touches i).key ≤ (doubtful_at touches j).key

-- the touch at a step of a pass over the touches, from the first one on or from the last one back
abbrev pub touch_in : Bool → List DoubtfulTouch → ℕ → DoubtfulTouch
touch_in true touches s = doubtful_at touches s
touch_in false touches s = doubtful_at touches (length touches - 1 - s)

-- in a pass from the first touch on, the first node reaches the second one, in a pass back the
-- second one reaches the first
abbrev pub Follows : (ℕ → List ℕ) → Bool → ℕ → ℕ → Type 0
Follows edges true k j = NodeReaches edges k j
Follows edges false k j = NodeReaches edges j k

-- the node follows from one of the ends
abbrev pub IsBehindEnd : (ℕ → List ℕ) → Bool → List ℕ → ℕ → Type 0
IsBehindEnd edges on ends k = (j : ℕ) × Contains ends j × Follows edges on j k

-- each touch follows all touches of its key at earlier steps of the pass, of which one writes, or
-- its node is marked
abbrev pub FollowAll : (ℕ → List ℕ) → Bool → List DoubtfulTouch → List Bool → ℕ → Type 0
FollowAll edges on touches unsettled n = (s t : ℕ) → s < t → t < n
    → (touch_in on touches s).key ≡ (touch_in on touches t).key
    → IsTrue (touch_in on touches s).writes ⊎ IsTrue (touch_in on touches t).writes
    → IsTrue (is_marked unsettled (touch_in on touches t).node)
    ⊎ Follows edges on (touch_in on touches t).node (touch_in on touches s).node
