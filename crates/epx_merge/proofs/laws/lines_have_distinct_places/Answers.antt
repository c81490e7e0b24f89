use Rattle.epx_merge.proofs.PlaceOrderLemmas.{HaveDistinctPlaces-placed_of}
use Rattle.epx_merge.proofs.laws.lines_have_distinct_places.Goals as goal

pub returns : goal.returns
returns c = HaveDistinctPlaces-placed_of
