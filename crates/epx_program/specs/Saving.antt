-- The state that is saved at the end of the logs that are followed.
use Rattle.std.specs.Prelude.{◌≡◌, ◌⊎◌, ℕ, List, Option, Some, None}
use Rattle.epx_types.specs.declared.fault.Fault.{Fault}
use Rattle.epx_types.specs.declared.fault.Fault.TheVariants.{Memory, Write}
use Rattle.epx_devices.specs.Models.{SaverModel}
use Rattle.epx_follow.specs.FollowerLaws.{executor_of}
use Rattle.epx_follow.specs.Following.{FollowerView}
use Rattle.epx_state.specs.StateForms.{StateParts}
use Rattle.epx_state.specs.States.{HoldsState, IsState}

-- what became of the saver: it saved these bytes under this path, or refused them, or was not used
pub record SaveRelation : Type 1 where
  pub Saves : List ℕ → List ℕ → Type 0
  pub Refuses : List ℕ → List ℕ → Type 0
  pub IsUnused : Type 0

-- what became of a saver of this model, from its states before and after
abbrev pub save_relation : {V : Type 0} → SaverModel V → V → V → SaveRelation
save_relation model old new = record {
  Saves = λ path bytes. model.saves old path bytes new;
  Refuses = λ path bytes. model.refuses old path bytes new;
  IsUnused = new ≡ old;
}

-- the bytes are a state of what the follower holds
abbrev pub IsStateOf : List ℕ → FollowerView → Type 0
IsStateOf bytes v = (p : StateParts) × IsState bytes p × HoldsState p (executor_of v)

-- a state of what the follower holds is saved under the path; without a path the saver is not used
abbrev pub SavesState : SaveRelation → Option (List ℕ) → FollowerView → Type 0
SavesState Saving None v = Saving.IsUnused
SavesState Saving (Some path) v = (bytes : List ℕ) × IsStateOf bytes v × Saving.Saves path bytes

-- the state of the follower cannot be saved under the path: out of memory, or the saver refuses it
abbrev pub CannotSave : SaveRelation → Option (List ℕ) → FollowerView → Fault → Type 0
CannotSave Saving None v fault = ⊥
CannotSave Saving (Some path) v fault = ((fault ≡ Memory) × Saving.IsUnused)
    ⊎ ((fault ≡ Write) × ((bytes : List ℕ) × IsStateOf bytes v × Saving.Refuses path bytes))
