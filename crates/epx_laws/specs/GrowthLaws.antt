-- Laws of committed maps that grow, as logs do.
use Rattle.std.specs.Prelude.{◌≡◌, ℕ, List, Contains, slice_get, Some}
use Rattle.epx_types.specs.declared.id.Id.{Id}
use Rattle.epx_types.specs.Ids.{IsRising}
use Rattle.epx_types.specs.Instances.{Instance}
use Rattle.epx_types.specs.PlacedLines.{Placed}
use Rattle.epx_types.specs.CommittedMap.{ids_of, commands_in, IsCommittedBy}
use Rattle.epx_types.specs.Contents.{Contents}
use Rattle.epx_types.specs.Execution.{execute}
use Rattle.epx_types.specs.Readiness.{IsReady}
use Rattle.epx_types.specs.Conflicts.{IsCovered}
use Rattle.epx_types.specs.LawfulOrders.{IsLawful}
use Rattle.epx_laws.specs.AgreementLaws.{HaveInstancesOf}

-- each instance of the first map is an instance of the second: the second map contains the first
abbrev pub IsWithin : List Instance → List Instance → Type 0
IsWithin m more = (e : Instance) → Contains m e → Contains more e

-- if the second of two lists of lines has all instances of the first, and both commit a map, the
-- map of the second contains the map of the first
abbrev pub MoreLinesCommitMore : Type 0
MoreLinesCommitMore = (lines more : List Placed) → HaveInstancesOf more lines →
    (m n : List Instance) → IsCommittedBy lines m → IsCommittedBy more n → IsWithin m n

-- an instance that is ready in a map is ready in every committed map that contains that map
abbrev pub ReadyStaysReady : Type 0
ReadyStaysReady = (m more : List Instance) → IsRising (ids_of more) → IsWithin m more → (x : Id)
    → IsReady m x → IsReady more x

-- if a covered committed map contains another map, a lawful order of the one and a lawful order of
-- the other, executed from the same contents, have the same reply to each instance of both orders
abbrev pub RepliesStay : Type 0
RepliesStay = (m more : List Instance) → IsRising (ids_of more) → IsWithin m more → IsCovered more
    → (ids other : List Id) → IsLawful m ids → IsLawful more other → (c : Contents) →
    (i j : ℕ) (x : Id) → slice_get ids i ≡ Some x → slice_get other j ≡ Some x
    → slice_get (execute (commands_in more other) c).replies j
    ≡ slice_get (execute (commands_in m ids) c).replies i
