-- Laws of the prefixes of lawful orders: the lists of replicas that are still executing.
use Rattle.std.specs.Prelude.{◌≡◌, ℕ, List, ◌++◌, Contains, slice_get, Some}
use Rattle.epx_types.specs.declared.id.Id.{Id}
use Rattle.epx_types.specs.Ids.{IsRising}
use Rattle.epx_types.specs.Instances.{Instance}
use Rattle.epx_types.specs.Contents.{Contents}
use Rattle.epx_types.specs.CommittedMap.{ids_of, commands_in}
use Rattle.epx_types.specs.Conflicts.{IsCovered}
use Rattle.epx_types.specs.Execution.{execute}
use Rattle.epx_types.specs.LawfulPrefixes.{IsLawfulPrefix}
use Rattle.epx_types.specs.LawfulOrders.{IsLawful, IsLawfulFor}
use Rattle.epx_types.specs.Reaching.{Reaches}
use Rattle.epx_types.specs.Readiness.{IsReady}

-- if a list is a lawful prefix, each list that it begins with is one too
abbrev pub PrefixesBeginLawfully : Type 0
PrefixesBeginLawfully = (m : List Instance) (ids more : List Id)
    → IsLawfulPrefix m (ids ++ more) → IsLawfulPrefix m ids

-- in a prefix of a lawful order of a covered committed map, each instance has the reply that it has
-- in every lawful order of the map, executed from the same contents
abbrev pub PrefixesReplyAlike : Type 0
PrefixesReplyAlike = (m : List Instance) → IsRising (ids_of m) → IsCovered m →
    (ids whole : List Id) → IsLawfulPrefix m ids → IsLawful m whole → (c : Contents) →
    (i j : ℕ) (x : Id) → slice_get ids i ≡ Some x → slice_get whole j ≡ Some x
    → slice_get (execute (commands_in m ids) c).replies i
    ≡ slice_get (execute (commands_in m whole) c).replies j

-- a list of ready instances of a committed map that has all that they reach, and is lawful for its
-- instances, is a lawful prefix: it may be executed whatever else is committed or missing
abbrev pub ClosedListsBegin : Type 0
ClosedListsBegin = (m : List Instance) → IsRising (ids_of m) → (ids : List Id)
    → ((x : Id) → Contains ids x → IsReady m x)
    → ((x y : Id) → Contains ids x → Reaches m x y → Contains ids y)
    → IsLawfulFor m (Contains ids) ids → IsLawfulPrefix m ids
