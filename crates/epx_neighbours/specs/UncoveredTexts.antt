-- The text that says which neighbours are not related.
use Rattle.std.specs.Prelude.{◌≡◌, ℕ, List}
use Rattle.epx_types.specs.ExecutionOrder.{Ranked, IsExecutionOrder}
use Rattle.epx_types.specs.Instances.{Instance}
use Rattle.epx_neighbours.specs.UncoveredNeighbours.{NeighbourPair, AreUncoveredPairs}
use Rattle.epx_neighbours.specs.UncoveredLines.{pairs_text}

-- the text has the lines of all uncovered pairs of the map in its execution order, by rising pair;
-- if there are none, it is the line `["covered"]`
pub record IsUncoveredText (m : List Instance) (text : List ℕ) : Type 0 where
  pub order : List Ranked
  pub pairs : List NeighbourPair
  pub executed : IsExecutionOrder m order
  pub listed : AreUncoveredPairs m order pairs
  pub printed : text ≡ pairs_text pairs
