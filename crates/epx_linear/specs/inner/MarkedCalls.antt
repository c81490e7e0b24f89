-- Calls with marks: whether their instances are executed.
use Rattle.std.specs.Prelude.{◌≡◌, ◌⊎◌, ◌&&◌, ℕ, ◌<◌, Bool, true, false, not, List, length, map}
use Rattle.std.specs.Prelude.{filter, is_some, Option, Some, Contains, slice_get}
use Rattle.epx_types.specs.declared.id.Id.{Id}
use Rattle.epx_linear.specs.declared.client_call.ClientCall.{ClientCall}

-- the instances of the calls that returned and are not marked
abbrev pub unmarked_ids : List (ClientCall × Bool) → List Id
unmarked_ids ps = map (λ p. p.0.id) (filter (λ p. is_some p.0.returned && not p.1) ps)

-- of so many calls, those at these places are marked
pub record AreMarked (calls : ℕ) (places : List (Option ℕ)) (marks : List Bool) : Type 0 where
  pub whole : length marks ≡ calls
  pub each : (j : ℕ) → j < calls → ((slice_get marks j ≡ Some true) × Contains places (Some j))
      ⊎ ((slice_get marks j ≡ Some false) × (¬ Contains places (Some j)))
