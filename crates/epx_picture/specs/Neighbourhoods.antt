-- What lies within some steps of an instance, along dependencies and against them.
use Rattle.std.specs.Prelude.{◌≡◌, ◌⊎◌, ◌↔◌, ℕ, zero, suc, Bool, List, IsTrue}
use Rattle.epx_types.specs.declared.id.Id.{Id}
use Rattle.epx_types.specs.Instances.{Instance}
use Rattle.epx_types.specs.Reaching.{DependsOn}

-- a step leads from x to y if x depends on y, or y on x
abbrev pub IsStep : List Instance → Id → Id → Type 0
IsStep m x y = DependsOn m x y ⊎ DependsOn m y x

-- n steps or fewer lead from x to y
abbrev pub IsWithinSteps : List Instance → ℕ → Id → Id → Type 0
IsWithinSteps m zero x y = x ≡ y
IsWithinSteps m (suc n) x y = IsWithinSteps m n x y
    ⊎ ((z : Id) × IsWithinSteps m n x z × IsStep m z y)

-- the test passes exactly what lies within n steps of x
abbrev pub IsWithinTest : List Instance → ℕ → Id → (Id → Bool) → Type 0
IsWithinTest m n x near = (y : Id) → IsTrue (near y) ↔ IsWithinSteps m n x y
