-- Dependencies that no log commits.
use Rattle.std.specs.Prelude.{ℕ, ◌&&◌, ◌↔◌, Bool, List, Contains, count_by}
use Rattle.std.specs.List.{list_any}
use Rattle.epx_types.specs.declared.id.Id.{Id}
use Rattle.epx_types.specs.Ids.{IsRising}
use Rattle.epx_types.specs.PlacedLines.{Placed}
use Rattle.epx_versions.specs.SameInstances.{same_id}

-- a line of y has x as a dependency
abbrev pub depends_on : List Placed → Id → Id → Bool
depends_on lines x y =
    list_any (λ p. same_id p.instance.id y && list_any (λ d. same_id d x) p.instance.deps) lines

-- how many of the instances have a line with x as a dependency
abbrev pub dependents_of : List Placed → List Id → Id → ℕ
dependents_of lines ids x = count_by (depends_on lines x) ids

-- the dependencies of the lines that are not among the committed instances, by rising Id
pub record AreMissingDeps (lines : List Placed) (ids missing : List Id) : Type 0 where
  pub rising : IsRising missing
  pub each : (x : Id) → Contains missing x
      ↔ (((p : Placed) × Contains lines p × Contains p.instance.deps x) × ¬ Contains ids x)
