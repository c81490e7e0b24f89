-- What the parts of following logs come to: where it begins, and what is written from there.
use Rattle.std.specs.Prelude.{◌≡◌, ℕ, Bool, List, Option, Some, None}
use Rattle.std.specs.Io.KnownBytes.{Appends}
use Rattle.epx_types.specs.declared.fault.Fault.{Fault}
use Rattle.epx_devices.specs.Models.{OpenerModel, SourceModel}
use Rattle.epx_merge.specs.DeliveredLogs.{EachDelivers}
use Rattle.epx_follow.specs.Following.{FollowerView, new_follower}
use Rattle.epx_follow.specs.InputEnds.{IsFollowed}
use Rattle.epx_program.specs.FollowStops.{ReadsState, RefusesState, StartsAfter}
use Rattle.epx_program.specs.PathsRead.{paths_read}
use Rattle.epx_program.specs.SourcesAt.{AreSourcesAt, SourceAt, model_at}

-- following begins with this follower, and this input is left once the state is read
abbrev pub StartsAt : {O F I : Type 0} → OpenerModel O F → SourceModel F → O → SourceModel I
    → Option (List ℕ) → ℕ → Option I → Option I → FollowerView → Type 0
StartsAt opening D opener E None log input left start =
    (left ≡ input) × (start ≡ new_follower)
StartsAt opening D opener E (Some state) log input left start = (bytes : List ℕ)
    × ReadsState opening D opener E state input left bytes × StartsAfter bytes log start

-- the state to begin with is refused
abbrev pub RefusesStart : {O F I : Type 0} → OpenerModel O F → SourceModel F → O → SourceModel I
    → Option (List ℕ) → ℕ → Option I → Fault → Type 0
RefusesStart opening D opener E None log input fault = ⊥
RefusesStart opening D opener E (Some state) log input fault =
    RefusesState opening D opener E state log input fault

-- the logs at the paths are followed to their ends from `start`, and the text is appended
pub record FollowsFrom {O F I : Type 0} (opening : OpenerModel O F) (D : SourceModel F)
    (opener : O) (E : SourceModel I) (start : FollowerView) (input : Option I) (each : Bool)
    (paths : Option (List (List ℕ))) (last : FollowerView) (old new : Option (List ℕ)) : Type 0
  where
    pub left : Option I
    pub sources : List (SourceAt O F I)
    pub after : List (SourceAt O F I)
    pub logs : List (List ℕ)
    pub text : List ℕ
    pub at : AreSourcesAt opener input left (paths_read paths) sources
    pub delivered : EachDelivers (model_at opening D E) sources after logs
    pub followed : IsFollowed start each logs last text
    pub appended : Appends old new text
