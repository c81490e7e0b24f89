-- Laws of the text about neighbours that are not related.
use Rattle.std.specs.Prelude.{◌≡◌, ◌↔◌, ℕ, List, Contains}
use Rattle.epx_types.specs.CommittedMap.{ids_of}
use Rattle.epx_types.specs.Conflicts.{IsCovered}
use Rattle.epx_types.specs.ExecutionOrder.{Ranked, IsExecutionOrder}
use Rattle.epx_types.specs.Ids.{IsRising}
use Rattle.epx_types.specs.Instances.{Instance}
use Rattle.epx_types.specs.Reaching.{DependsOn}
use Rattle.epx_report.specs.ViewLines.{covered_line}
use Rattle.epx_neighbours.specs.Mending.{HasMoreDependencies}
use Rattle.epx_neighbours.specs.UncoveredNeighbours.{NeighbourPair, AreUncoveredPairs}
use Rattle.epx_neighbours.specs.UncoveredTexts.{IsUncoveredText}

-- a committed map has a text of its uncovered neighbours
abbrev pub UncoveredTextExists : Type 0
UncoveredTextExists = (m : List Instance) → IsRising (ids_of m)
    → (text : List ℕ) × IsUncoveredText m text

-- a map has at most one text of its uncovered neighbours
abbrev pub UncoveredTextIsUnique : Type 0
UncoveredTextIsUnique = (m : List Instance) (text other : List ℕ) → IsUncoveredText m text
    → IsUncoveredText m other → text ≡ other

-- the text of a committed map is the line `["covered"]` exactly if the map is covered
abbrev pub CoveredLineMeansCovered : Type 0
CoveredLineMeansCovered = (m : List Instance) (text : List ℕ) → IsRising (ids_of m)
    → IsUncoveredText m text → (text ≡ covered_line) ↔ IsCovered m

-- Let n have more dependencies than the committed map m. If in n the second instance of each
-- uncovered pair of m depends on the first one, n is covered
abbrev pub MendedMapIsCovered : Type 0
MendedMapIsCovered = (m n : List Instance) (order : List Ranked) (pairs : List NeighbourPair)
    → IsRising (ids_of m) → IsExecutionOrder m order → AreUncoveredPairs m order pairs
    → HasMoreDependencies m n
    → ((p : NeighbourPair) → Contains pairs p → DependsOn n p.after p.before) → IsCovered n
