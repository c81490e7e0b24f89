-- Laws of what replicas say, and of where it is wrong.
use Rattle.std.specs.Prelude.{◌≡◌, ◌⊎◌, ◌↔◌, ℕ, List, [], map, zip, All, slice_get, Some}
use Rattle.std.specs.Prelude.{IsUtf8}
use Rattle.std.specs.Int.{w64}
use Rattle.std.specs.Int.RustNames.{FitsSigned}
use Rattle.std.specs.FinMap as contents
use Rattle.epx_types.specs.declared.id.Id.{Id}
use Rattle.epx_types.specs.declared.reply.Reply.{Reply}
use Rattle.epx_types.specs.Ids.{IsRising}
use Rattle.epx_types.specs.Keys.{FitsKey}
use Rattle.epx_types.specs.Instances.{Instance}
use Rattle.epx_types.specs.Contents.{Contents}
use Rattle.epx_types.specs.CommittedMap.{ids_of}
use Rattle.epx_types.specs.Conflicts.{IsCovered}
use Rattle.epx_types.specs.LawfulOrders.{IsLawful}
use Rattle.epx_types.specs.LawfulPrefixes.{IsLawfulPrefix}
use Rattle.epx_report.specs.ReportReadings.{replied_ids, FitsNumbers, FitsReply}
use Rattle.epx_verify.specs.SaidTexts.{IsSaid, IsBadSaid}
use Rattle.epx_verify.specs.ListExecutions.{list_execution, said_text, replay_text}
use Rattle.epx_verify.specs.Differences.{differences_text}

-- ---- any bytes say one thing, or have one first bad line, and never both

-- any bytes say replies and a store, or have a first bad line
abbrev pub SaidOrBadSaid : Type 0
SaidOrBadSaid = (bytes : List ℕ)
    → ((replies : List (Id × Reply)) × (stored : Contents) × IsSaid bytes replies stored)
    ⊎ ((line : ℕ) × IsBadSaid bytes line)

-- bytes that say replies and a store have no bad line
abbrev pub SaidIsNoBadSaid : Type 0
SaidIsNoBadSaid = (bytes : List ℕ) (replies : List (Id × Reply)) (stored : Contents) (line : ℕ)
    → IsSaid bytes replies stored → ¬ IsBadSaid bytes line

-- bytes say only one list of replies, and only one store
abbrev pub TextSaysOneThing : Type 0
TextSaysOneThing = (bytes : List ℕ) (replies others : List (Id × Reply)) (stored held : Contents)
    → IsSaid bytes replies stored → IsSaid bytes others held
    → (replies ≡ others) × (stored ≡ held)

-- bytes have only one first bad line
abbrev pub BadSaidIsBadAtOneLine : Type 0
BadSaidIsBadAtOneLine = (bytes : List ℕ) (line other : ℕ) → IsBadSaid bytes line
    → IsBadSaid bytes other → line ≡ other

-- ---- what is written is read as it says

-- Ids, replies, keys and values are within the limits of the lines that say them, and keys are
-- UTF-8
pub record FitSaidText (replies : List (Id × Reply)) (stored : Contents) : Type 0 where
  pub replies_fit : All (λ p. FitsNumbers p.0 × FitsReply p.1) replies
  pub stored_fit : All (λ e. FitsKey e.0 × IsUtf8 e.0 × FitsSigned w64 e.1)
      (contents.entries stored)

-- what is written of replies and a store says these replies and this store, if they are within the
-- limits
abbrev pub SaidTextIsSaid : Type 0
SaidTextIsSaid = (replies : List (Id × Reply)) (stored : Contents) → FitSaidText replies stored
    → IsSaid (said_text replies stored) replies stored

-- ---- differences

-- no difference is written exactly if the replies and the store are those of executing the
-- instances in the order of the replies, from the empty store
abbrev pub NoDifferenceIfRight : Type 0
NoDifferenceIfRight = (m : List Instance) (replies : List (Id × Reply)) (stored : Contents)
    → (differences_text m replies stored ≡ [])
    ↔ ((map (λ p. p.1) replies ≡ (list_execution m (replied_ids replies)).replies)
    × (stored ≡ (list_execution m (replied_ids replies)).final))

-- the replies and the store of executing a list have no difference
abbrev pub ReplayHasNoDifference : Type 0
ReplayHasNoDifference = (m : List Instance) (ids : List Id)
    → differences_text m (zip ids (list_execution m ids).replies) (list_execution m ids).final ≡ []

-- what a replay of a list writes, read again as what a replica says, has no difference, if its
-- replies and store are within the limits
abbrev pub ReplayReadAgainIsRight : Type 0
ReplayReadAgainIsRight = (m : List Instance) (ids : List Id)
    → FitSaidText (zip ids (list_execution m ids).replies) (list_execution m ids).final
    → (replies : List (Id × Reply)) (stored : Contents) → IsSaid (replay_text m ids) replies stored
    → differences_text m replies stored ≡ []

-- Over a covered map, a replica with a lawful prefix and no difference gave each instance the reply
-- that the instance has in every lawful order.
abbrev pub RightRepliesAreThoseOfAllOrders : Type 0
RightRepliesAreThoseOfAllOrders = (m : List Instance) → IsRising (ids_of m) → IsCovered m →
    (replies : List (Id × Reply)) (stored : Contents) (whole : List Id) →
    IsLawfulPrefix m (replied_ids replies) → differences_text m replies stored ≡ [] →
    IsLawful m whole → (i j : ℕ) (x : Id) (r : Reply) → slice_get replies i ≡ Some (x, r) →
    slice_get whole j ≡ Some x → slice_get (list_execution m whole).replies j ≡ Some r
