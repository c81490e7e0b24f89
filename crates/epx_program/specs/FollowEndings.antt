-- How the program ends that follows the logs at its paths.
use Rattle.std.specs.Prelude.{◌≡◌, ◌≢◌, ◌⊎◌, ◌∷◌, ℕ, Bool, true, List, Option, Some, None, length}
use Rattle.std.specs.Prelude.{option_map, string_bytes}
use Rattle.std.specs.Io.KnownBytes.{Appends, Keeps}
use Rattle.epx_types.specs.declared.fault.Fault.{Fault}
use Rattle.epx_types.specs.declared.fault.Fault.TheVariants.{Memory, Write}
use Rattle.epx_types.specs.Faults.{fault_status}
use Rattle.epx_follow.specs.Following.{FollowerView, new_follower}
use Rattle.epx_follow.specs.InputEnds.{IsFollowed}
use Rattle.epx_words.specs.declared.words.FollowOptions.{FollowOptions}
use Rattle.epx_program.specs.FollowStops.{StartsAfter}
use Rattle.epx_program.specs.Inputs.{AreTextsAt, AreTextsRead, TextRelation}
use Rattle.epx_program.specs.PathsRead.{paths_read}
use Rattle.epx_program.specs.Saving.{CannotSave, SaveRelation, SavesState}

-- the path of the state to go on from, if there is one
abbrev pub state_of : FollowOptions → Option (List ℕ)
state_of options = option_map string_bytes options.state

-- the path under which the state at the end is saved, if there is one
abbrev pub save_of : FollowOptions → Option (List ℕ)
save_of options = option_map string_bytes options.save

-- These are the logs at the paths, and the follower to begin with: a new one, or one that goes on
-- from the text at the path of a state, which is read before the logs. `Is` says which text is that
-- of a path
abbrev pub Begins : TextRelation → Option (List ℕ) → Option (List (List ℕ)) → List (List ℕ)
    → FollowerView → Type 0
Begins Is None paths logs start = AreTextsRead Is paths logs × (start ≡ new_follower)
Begins Is (Some state) paths logs start = (bytes : List ℕ)
    × AreTextsAt Is (state ∷ paths_read paths) (bytes ∷ logs)
    × StartsAfter bytes (length logs) start

-- the text of following the logs at the paths to their ends is appended, after which the follower
-- is `last`
pub record FollowsToEnds (Is : TextRelation) (options : FollowOptions)
    (paths : Option (List (List ℕ))) (last : FollowerView) (old new : Option (List ℕ)) : Type 0
  where
    pub logs : List (List ℕ)
    pub start : FollowerView
    pub text : List ℕ
    pub begins : Begins Is (state_of options) paths logs start
    pub followed : IsFollowed start options.each logs last text
    pub appended : Appends old new text

-- Following stops with this fault, and the saver is not used: as `Is.Stops` says, or memory runs
-- out and the output is unchanged. The fault is of the output only if that failed
pub record StopsBefore (Is : TextRelation) (Saving : SaveRelation) (options : FollowOptions)
    (paths : Option (List (List ℕ))) (fault : Fault) (failed : Bool) (old new : Option (List ℕ))
    : Type 0 where
  pub output : fault ≡ Write → failed ≡ true
  pub unused : Saving.IsUnused
  pub stops : ((fault ≡ Memory) × Keeps old new)
      ⊎ Is.Stops (state_of options) options.each paths fault old new

-- with status 0 the text of following the logs to their ends is appended to the output, and the
-- state is saved; any other status is that of a fault with which following or saving stops. `Is`
-- says which text a path has, `Saving` what is saved, `old` and `new` what the output has before
-- and after, and `failed` whether it failed
pub record EndsFollow (Is : TextRelation) (Saving : SaveRelation) (options : FollowOptions)
    (paths : Option (List (List ℕ))) (status : ℕ) (failed : Bool) (old new : Option (List ℕ))
    : Type 0 where
  -- status 0 means that the logs are followed to their ends, and that the state is saved then
  pub followed : status ≡ 0 → (last : FollowerView) × FollowsToEnds Is options paths last old new
      × SavesState Saving (save_of options) last
  -- any other one is that of the fault with which following stops, or with which the state cannot
  -- be saved at the end
  pub stopped : status ≢ 0 → (fault : Fault) × (status ≡ fault_status fault)
      × (StopsBefore Is Saving options paths fault failed old new
      ⊎ ((last : FollowerView) × FollowsToEnds Is options paths last old new
      × CannotSave Saving (save_of options) last fault))
