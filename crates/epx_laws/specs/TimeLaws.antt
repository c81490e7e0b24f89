-- Laws of sequence numbers and of time.
use Rattle.std.specs.Prelude.{◌≡◌, ◌<◌, Bool, true, List, Contains}
use Rattle.epx_types.specs.declared.id.Id.{Id}
use Rattle.epx_types.specs.Instances.{Instance}
use Rattle.epx_types.specs.Conflicts.{Conflict}
use Rattle.epx_types.specs.Reaching.{Reaches}
use Rattle.epx_types.specs.LawfulOrders.{Before, IsLawful}
use Rattle.epx_types.specs.LawfulPrefixes.{IsLawfulPrefix}

-- in a lawful order, an instance comes after each committed one that it reaches and that has a
-- lower sequence number
abbrev pub LowerSequenceComesFirst : Type 0
LowerSequenceComesFirst = (m : List Instance) (ids : List Id) → IsLawful m ids
    → (d e : Instance) → Contains m d → Contains m e → Contains ids e.id → Reaches m e.id d.id
    → d.seq < e.seq → Before ids d.id e.id

-- If two instances of a map conflict and the test says that the first was committed before the
-- second was proposed, the second reaches the first and has the greater sequence number. Logs have
-- no clock, so the test may be any function of two Ids. The protocol has to see to this
abbrev pub RespectsTime : List Instance → (Id → Id → Bool) → Type 0
RespectsTime m earlier = (d e : Instance) → Contains m d → Contains m e → Conflict d.ops e.ops
    → earlier d.id e.id ≡ true → Reaches m e.id d.id × (d.seq < e.seq)

-- if a map respects time (`RespectsTime`), and the test says of two of its instances that conflict
-- that the first was committed before the second was proposed, each lawful prefix that has the
-- second has the first before it
abbrev pub TimeIsKept : Type 0
TimeIsKept = (m : List Instance) (earlier : Id → Id → Bool) → RespectsTime m earlier
    → (ids : List Id) → IsLawfulPrefix m ids → (d e : Instance) → Contains m d → Contains m e
    → Conflict d.ops e.ops → earlier d.id e.id ≡ true → Contains ids e.id → Before ids d.id e.id
