-- Laws of the members in which lines differ, of the groups of lines that commit the same, and of
-- the dependents of what is missing.
use Rattle.std.specs.Prelude.{◌≡◌, ◌≢◌, ◌↔◌, true, List, Contains, AllPairs}
use Rattle.epx_types.specs.declared.id.Id.{Id}
use Rattle.epx_types.specs.declared.place.Place.{Place}
use Rattle.epx_types.specs.Instances.{Instance}
use Rattle.epx_types.specs.PlacedLines.{Placed, HaveDistinctPlaces}
use Rattle.epx_versions.specs.SameInstances.{same_seq, same_deps, same_ops}
use Rattle.epx_compare.specs.Differences.{groups_of, some_differ}
use Rattle.epx_compare.specs.MissingDeps.{depends_on}

-- each line has its place in one group, groups have places of lines alone and are not empty, and
-- lines have their places in one group exactly if they commit the same
pub record AreGroups (lines : List Placed) (groups : List (List Place)) : Type 0 where
  pub whole : (p : Placed) → Contains lines p
      → (group : List Place) × Contains groups group × Contains group p.place
  pub apart : AllPairs (λ g h. (x : Place) → Contains g x → ¬ Contains h x) groups
  pub only : (group : List Place) → Contains groups group → (x : Place) → Contains group x
      → (p : Placed) × Contains lines p × (p.place ≡ x)
  pub some : (group : List Place) → Contains groups group → (x : Place) × Contains group x
  pub together : (group : List Place) → Contains groups group → (p q : Placed) → Contains lines p
      → Contains lines q → Contains group p.place
      → Contains group q.place ↔ (p.instance ≡ q.instance)

-- `groups_of` groups the places of lines that commit the same, if no two lines have one place
abbrev pub GroupsAreOfTheSame : Type 0
GroupsAreOfTheSame = (lines : List Placed) → HaveDistinctPlaces lines
    → AreGroups lines (groups_of lines)

-- two of the lines commit instances of which this part is not equal
abbrev pub TwoDiffer : {A : Type 0} → (Instance → A) → List Placed → Type 0
TwoDiffer part lines = (p q : Placed) × Contains lines p × Contains lines q
    × (part p.instance ≢ part q.instance)

-- `some_differ` finds a difference in `seq`, in `deps` or in `ops` exactly if two of the lines are
-- not equal in this member
pub record MembersAreOfTheDifferent : Type 0 where
  pub seq : (lines : List Placed)
      → (some_differ same_seq lines ≡ true) ↔ TwoDiffer (λ e. e.seq) lines
  pub deps : (lines : List Placed)
      → (some_differ same_deps lines ≡ true) ↔ TwoDiffer (λ e. e.deps) lines
  pub ops : (lines : List Placed)
      → (some_differ same_ops lines ≡ true) ↔ TwoDiffer (λ e. e.ops) lines

-- y is counted among those that depend on x exactly if a line of y has x as a dependency
abbrev pub DependentsHaveLines : Type 0
DependentsHaveLines = (lines : List Placed) (x y : Id) → (depends_on lines x y ≡ true)
    ↔ ((p : Placed) × Contains lines p × (p.instance.id ≡ y) × Contains p.instance.deps x)
