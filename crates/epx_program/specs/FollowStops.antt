-- Where following the logs at paths begins, and where it stops.
use Rattle.std.specs.Prelude.{◌≡◌, ◌⊎◌, ◌<◌, ℕ, Bool, List, length, Option, Some, None}
use Rattle.std.specs.Io.KnownBytes.{Keeps}
use Rattle.epx_types.specs.declared.fault.Fault.{Fault}
use Rattle.epx_types.specs.declared.fault.Fault.TheVariants.{LogTooLong, Memory, Read}
use Rattle.epx_devices.specs.Deliveries.{Delivers, DeliversAll, DeliversThenFails}
use Rattle.epx_devices.specs.Models.{OpenerModel, SourceModel}
use Rattle.epx_executor.specs.Commits.{ExecutorView}
use Rattle.epx_follow.specs.Following.{FollowerView, follower_after, new_follower}
use Rattle.epx_follow.specs.FollowingStops.{StopsFollowing, most_followed_bytes}
use Rattle.epx_state.specs.Starts.{GoesOnFrom, IsStartFault}
use Rattle.epx_program.specs.PathsRead.{paths_read}
use Rattle.epx_program.specs.SourcesAt.{AreSourcesAt, IsSourceAt, SourceAt, model_at}

-- the follower goes on from these bytes, a state or an earlier report. What waits in it has the
-- lines of the state, which is the log of this number
abbrev pub StartsAfter : List ℕ → ℕ → FollowerView → Type 0
StartsAfter bytes log start = (v : ExecutorView) × (line : ℕ) × GoesOnFrom bytes v line
    × (start ≡ follower_after v log line)

-- the number of the state in faults: how many logs there are, the number after the last log
abbrev pub state_number : Option (List (List ℕ)) → ℕ
state_number paths = length (paths_read paths)

-- reads of the source at the path of the state delivered these bytes, and `left` is what is left of
-- the program's input
pub record ReadsState {O F I : Type 0} (opening : OpenerModel O F) (D : SourceModel F) (opener : O)
    (E : SourceModel I) (state : List ℕ) (input left : Option I) (bytes : List ℕ) : Type 0 where
  pub source : SourceAt O F I
  pub last : SourceAt O F I
  pub at : IsSourceAt opener state input left source
  pub delivered : DeliversAll (model_at opening D E) source last bytes

-- reading a state stops: out of memory, it has too many bytes, or a read failed
abbrev pub CannotRead : {S : Type 0} → SourceModel S → ℕ → S → S → Fault → Type 0
CannotRead D log first now fault = (fault ≡ Memory)
    ⊎ ((fault ≡ LogTooLong log)
    × ((bytes : List ℕ) × Delivers D first now bytes × (most_followed_bytes < length bytes)))
    ⊎ ((fault ≡ Read log) × DeliversThenFails D first now)

-- the state at the path is refused: it cannot be read, or its bytes are neither a state nor an
-- earlier report
pub record RefusesState {O F I : Type 0} (opening : OpenerModel O F) (D : SourceModel F)
    (opener : O) (E : SourceModel I) (state : List ℕ) (log : ℕ) (input : Option I) (fault : Fault)
    : Type 0 where
  pub left : Option I
  pub source : SourceAt O F I
  pub last : SourceAt O F I
  pub at : IsSourceAt opener state input left source
  pub refused : CannotRead (model_at opening D E) log source last fault
      ⊎ ((bytes : List ℕ) × DeliversAll (model_at opening D E) source last bytes
      × IsStartFault bytes fault)

-- following the logs at the paths from the follower `start` stops with this fault
-- (`StopsFollowing`)
pub record StopsFrom {O F I : Type 0} (opening : OpenerModel O F) (D : SourceModel F) (opener : O)
    (E : SourceModel I) (start : FollowerView) (input : Option I) (each : Bool)
    (paths : Option (List (List ℕ))) (fault : Fault) (old new : Option (List ℕ)) : Type 0 where
  pub left : Option I
  pub sources : List (SourceAt O F I)
  pub after : List (SourceAt O F I)
  pub at : AreSourcesAt opener input left (paths_read paths) sources
  pub stopped : StopsFollowing (model_at opening D E) start each sources after fault old new

-- following the logs at the paths stops with this fault, from a new follower, or from the one of
-- the state at a path, which is read first. If the state is refused, the output is unchanged
abbrev pub StopsAtPaths : {O F I : Type 0} → OpenerModel O F → SourceModel F → O → SourceModel I
    → I → Option (List ℕ) → Bool → Option (List (List ℕ)) → Fault
    → Option (List ℕ) → Option (List ℕ) → Type 0
StopsAtPaths opening D opener E input None each paths fault old new =
    StopsFrom opening D opener E new_follower (Some input) each paths fault old new
StopsAtPaths {I = I} opening D opener E input (Some state) each paths fault old new =
    (RefusesState opening D opener E state (state_number paths) (Some input) fault
    × Keeps old new)
    ⊎ ((left : Option I) × (bytes : List ℕ) × (start : FollowerView)
    × ReadsState opening D opener E state (Some input) left bytes
    × StartsAfter bytes (state_number paths) start
    × StopsFrom opening D opener E start left each paths fault old new)
