-- Laws of the texts about one instance and about paths.
use Rattle.std.specs.Prelude.{◌≡◌, ℕ, List, ◌∷◌, Contains}
use Rattle.epx_types.specs.declared.id.Id.{Id}
use Rattle.epx_types.specs.Ids.{IsRising}
use Rattle.epx_types.specs.Instances.{Instance}
use Rattle.epx_types.specs.CommittedMap.{ids_of, IsCommitted}
use Rattle.epx_types.specs.Readiness.{WaitsFor}
use Rattle.epx_why.specs.declared.need.Need.{Need}
use Rattle.epx_why.specs.Needs.{AreNeedsOf, AreNeeding}
use Rattle.epx_why.specs.WhyTexts.{IsWhyText, IsPathText}

-- in a committed map each Id, committed or not, has a text that says why it is executed where it
-- is, or why not (`IsWhyText`)
abbrev pub WhyTextExists : Type 0
WhyTextExists = (m : List Instance) (x : Id) → IsRising (ids_of m)
    → (text : List ℕ) × IsWhyText m x text

-- a map and an Id have at most one text of `IsWhyText`
abbrev pub WhyTextIsUnique : Type 0
WhyTextIsUnique = (m : List Instance) (x : Id) (text other : List ℕ) → IsWhyText m x text
    → IsWhyText m x other → text ≡ other

-- for each map and two Ids there is a text of a path from the first to the second, or one that says
-- that there is no path (`IsPathText`)
abbrev pub PathTextExists : Type 0
PathTextExists = (m : List Instance) (x y : Id) → (text : List ℕ) × IsPathText m x y text

-- a map and two Ids have at most one text of `IsPathText`
abbrev pub PathTextIsUnique : Type 0
PathTextIsUnique = (m : List Instance) (x y : Id) (text other : List ℕ) → IsPathText m x y text
    → IsPathText m x y other → text ≡ other

-- what a waiting instance needs begins with the missing instance that it waits for
abbrev pub NeedsBeginWithTheMissing : Type 0
NeedsBeginWithTheMissing = (m : List Instance) (x missing : Id) (needs : List Need)
    → WaitsFor m x missing → AreNeedsOf m x needs
    → (first : Need) × (rest : List Need) × (needs ≡ first ∷ rest) × (first.id ≡ missing)

-- if y is not committed, each instance from which a path leads to y waits
abbrev pub NeedingInstancesWait : Type 0
NeedingInstancesWait = (m : List Instance) (y : Id) (needing : List Need) → ¬ IsCommitted m y
    → AreNeeding m y needing → (n : Need) → Contains needing n → (z : Id) × WaitsFor m n.id z
