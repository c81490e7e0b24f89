-- Calls that are executed too late for the times at which clients saw them.
use Rattle.std.specs.Prelude.{◌≡◌, ℕ, ◌<◌, List, ◌∷◌, length, Option, Some, None, Contains}
use Rattle.std.specs.Prelude.{slice_index_or}
use Rattle.epx_types.specs.declared.id.Id.{Id}
use Rattle.epx_types.specs.declared.op.Op.{Op}
use Rattle.epx_types.specs.Levels.{Climbs}
use Rattle.epx_linear.specs.declared.client_call.ClientCall.{ClientCall}
use Rattle.epx_linear.specs.ClientCalls.{HasCall, ReturnsBefore, IsInvokedUpTo}

-- i is j, or a chain leads from position i up to position j: commands at rising positions, each of
-- which conflicts with the next
abbrev pub ConflictsUpTo : List (List Op) → ℕ → ℕ → Type 0
ConflictsUpTo commands i j = (is : List ℕ) × Climbs commands j is × Contains (j ∷ is) i

-- the call at position j had returned before that at position i was invoked, and is executed after
-- it by a chain of conflicts
abbrev pub IsLate : List (List Op) → List (Option ClientCall) → ℕ → ℕ → Type 0
IsLate commands calls j i = (a b : ClientCall) × HasCall calls j a × HasCall calls i b
    × ConflictsUpTo commands i j × ReturnsBefore a b

-- no call is late: if a chain of conflicts leads from one call to another, the second had not
-- returned before the first was invoked
abbrev pub NoneLate : List (List Op) → List (Option ClientCall) → Type 0
NoneLate commands calls = (j i : ℕ) → ¬ IsLate commands calls j i

-- b is the call that was invoked last of those at position j and at the positions from which a
-- chain leads to j; of several, the first by Id
pub record IsLatestFor (commands : List (List Op)) (calls : List (Option ClientCall)) (j : ℕ)
    (b : ClientCall) : Type 0 where
  pub among : (i : ℕ) × ConflictsUpTo commands i j × HasCall calls i b
  pub latest : (i : ℕ) (c : ClientCall) → ConflictsUpTo commands i j → HasCall calls i c
      → IsInvokedUpTo c b

-- what is found at position j: None if no late call is there; otherwise the instance of the call
-- that was invoked last of those from which a chain leads to j, the first by Id of several
abbrev pub IsFoundLate : List (List Op) → List (Option ClientCall) → ℕ → Option Id → Type 0
IsFoundLate commands calls j None = (i : ℕ) → ¬ IsLate commands calls j i
IsFoundLate commands calls j (Some x) = (a b : ClientCall) × HasCall calls j a
    × IsLatestFor commands calls j b × ReturnsBefore a b × (b.id ≡ x)

-- `found` has an element for each command: what is found at its position (`IsFoundLate`)
pub record AreFoundLate (commands : List (List Op)) (calls : List (Option ClientCall))
    (found : List (Option Id)) : Type 0 where
  pub whole : length found ≡ length commands
  pub each : (j : ℕ) → j < length commands → IsFoundLate commands calls j
      (slice_index_or found j None)
