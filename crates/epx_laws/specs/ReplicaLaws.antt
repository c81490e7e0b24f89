-- Laws of replicas that execute what they know of one map, while others know more.
use Rattle.std.specs.Prelude.{◌≡◌, ◌↔◌, ℕ, List, Contains, slice_get, Some}
use Rattle.epx_types.specs.declared.id.Id.{Id}
use Rattle.epx_types.specs.Ids.{IsRising}
use Rattle.epx_types.specs.Instances.{Instance}
use Rattle.epx_types.specs.CommittedMap.{ids_of, commands_in}
use Rattle.epx_types.specs.Contents.{Contents}
use Rattle.epx_types.specs.Execution.{execute}
use Rattle.epx_types.specs.Conflicts.{IsCovered}
use Rattle.epx_types.specs.LawfulPrefixes.{IsLawfulPrefix}
use Rattle.epx_laws.specs.GrowthLaws.{IsWithin}

-- a prefix of a lawful order of a map is a prefix of a lawful order of every committed map that
-- contains that map: what a replica has executed stays lawful, whatever is committed later
abbrev pub PrefixesStay : Type 0
PrefixesStay = (m more : List Instance) → IsRising (ids_of more) → IsWithin m more
    → (ids : List Id) → IsLawfulPrefix m ids → IsLawfulPrefix more ids

-- each map that a covered committed map contains is covered
abbrev pub PartsAreCovered : Type 0
PartsAreCovered = (m more : List Instance) → IsRising (ids_of more) → IsWithin m more
    → IsCovered more → IsCovered m

-- a replica knows a part of the map m, and has executed a prefix of a lawful order of that part
pub record HasExecuted (m known : List Instance) (ids : List Id) : Type 0 where
  pub within : IsWithin known m
  pub begins : IsLawfulPrefix known ids

-- two replicas that have executed, from the same contents, lawful prefixes of parts of one covered
-- committed map (`HasExecuted`) have the same reply to each instance that both have executed
abbrev pub ReplicasReplyAlike : Type 0
ReplicasReplyAlike = (m : List Instance) → IsRising (ids_of m) → IsCovered m
    → (a b : List Instance) (ids other : List Id) → HasExecuted m a ids → HasExecuted m b other
    → (c : Contents) → (i j : ℕ) (x : Id) → slice_get ids i ≡ Some x → slice_get other j ≡ Some x
    → slice_get (execute (commands_in a ids) c).replies i
    ≡ slice_get (execute (commands_in b other) c).replies j

-- two replicas that have executed, from the same contents, lawful prefixes of parts of one covered
-- committed map have the same contents if they have executed the same instances
abbrev pub ReplicasStoreAlike : Type 0
ReplicasStoreAlike = (m : List Instance) → IsRising (ids_of m) → IsCovered m
    → (a b : List Instance) (ids other : List Id) → HasExecuted m a ids → HasExecuted m b other
    → ((x : Id) → Contains ids x ↔ Contains other x) → (c : Contents)
    → (execute (commands_in a ids) c).final ≡ (execute (commands_in b other) c).final
