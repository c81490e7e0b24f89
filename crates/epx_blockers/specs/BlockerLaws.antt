-- Laws of the text about missing instances.
use Rattle.std.specs.Prelude.{◌≡◌, ◌↔◌, ℕ, ◌+◌, List, length, sum_by}
use Rattle.epx_types.specs.declared.id.Id.{Id}
use Rattle.epx_types.specs.Instances.{Instance}
use Rattle.epx_types.specs.Readiness.{WaitsFor}
use Rattle.epx_types.specs.WaitingLists.{Waiting, IsWaitingList}
use Rattle.epx_blockers.specs.declared.blocker.Blocker.{Blocker}
use Rattle.epx_blockers.specs.Blocking.{Blocks, SeveralBlock}
use Rattle.epx_blockers.specs.IdCounts.{IsCount}
use Rattle.epx_blockers.specs.Blockers.{AreBlockers}
use Rattle.epx_blockers.specs.BlockerTexts.{IsBlockersText}

-- for each map there is a text that says what blocks its instances
abbrev pub BlockersTextExists : Type 0
BlockersTextExists = (m : List Instance) → (text : List ℕ) × IsBlockersText m text

-- a map has at most one text that says what blocks its instances
abbrev pub BlockersTextIsUnique : Type 0
BlockersTextIsUnique = (m : List Instance) (text other : List ℕ) → IsBlockersText m text
    → IsBlockersText m other → text ≡ other

-- an instance waits exactly if something blocks it
abbrev pub BlockedInstancesWait : Type 0
BlockedInstancesWait = (m : List Instance) (x : Id)
    → ((y : Id) × Blocks m y x) ↔ ((y : Id) × WaitsFor m x y)

-- the numbers of instances that the missing ones block alone and the number of those that several
-- block add up to the number of waiting instances
abbrev pub CountsAddUpToTheWaiting : Type 0
CountsAddUpToTheWaiting = (m : List Instance) (bs : List Blocker) (several : ℕ)
    (ws : List Waiting) → AreBlockers m bs → IsCount (SeveralBlock m) several
    → IsWaitingList m ws → sum_by (λ b. b.alone) bs + several ≡ length ws
