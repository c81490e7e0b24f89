-- The lines about neighbours that are not related: each a JSON array in compact form, ended by a
-- line feed.
use Rattle.std.specs.Prelude.{ℕ, List, [], ◌∷◌, codes, flat_map}
use Rattle.serde_json.specs.Data.{Data, string}
use Rattle.epx_report.specs.ReportLines.{data_of_number, line_of}
use Rattle.epx_report.specs.ViewLines.{covered_line}
use Rattle.epx_neighbours.specs.UncoveredNeighbours.{NeighbourPair}

-- the elements of `["uncovered",r,i,r2,i2,"k"]`: the instance that is executed first, the other
-- one, and their key
abbrev pub pair_data : NeighbourPair → List Data
pair_data n = string (codes "uncovered") ∷ data_of_number n.before.replica
    ∷ data_of_number n.before.number ∷ data_of_number n.after.replica
    ∷ data_of_number n.after.number ∷ string n.key ∷ []

-- the line `["uncovered",r,i,r2,i2,"k"]` of two neighbours on the key k that are not related, of
-- which r.i is executed first
abbrev pub pair_line : NeighbourPair → List ℕ
pair_line n = line_of (pair_data n)

-- the line of each pair, in the order of the list; if there is none, the line `["covered"]`
abbrev pub pairs_text : List NeighbourPair → List ℕ
pairs_text [] = covered_line
pairs_text (n ∷ ns) = flat_map pair_line (n ∷ ns)
