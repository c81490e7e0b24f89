-- The result of a parallel map over claimed pieces.
use Rattle.std.specs.Prelude.{◌≡◌, ℕ, ◌<◌, ◌⊎◌, List, length, slice_get, Option, Some}

-- there are n slots, and the slot of each number below n has an answer for it, as `answers` says
pub record IsFilled {T : Type 0} (answers : ℕ → T → Type 0) (n : ℕ)
    (slots : List (Option T)) : Type 0 where
  pub len : length slots ≡ n
  pub each : (i : ℕ) → i < n → (x : T) × (slice_get slots i ≡ Some (Some x)) × answers i x

-- there are n values; the one at each position i is an answer for i, as `answers` says
pub record AreOrderedAnswers {T : Type 0} (answers : ℕ → T → Type 0) (n : ℕ)
    (values : List T) : Type 0 where
  pub len : length values ≡ n
  pub each : (i : ℕ) → i < n → (x : T) × (slice_get values i ≡ Some x) × answers i x

-- e is an error for some number below n, as `fails` says, or one of running out of memory
abbrev pub IsMapFault : {E : Type 0} → (ℕ → E → Type 0) → (E → Type 0) → ℕ → E → Type 0
IsMapFault fails out_of_memory n e = ((i : ℕ) × (i < n) × fails i e) ⊎ out_of_memory e
