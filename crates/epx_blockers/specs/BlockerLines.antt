-- The lines about missing instances: each a JSON array in compact form, ended by a line feed.
use Rattle.std.specs.Prelude.{ℕ, List, [], ◌∷◌, codes}
use Rattle.serde_json.specs.Data.{Data, string}
use Rattle.epx_report.specs.ReportLines.{data_of_number, line_of}
use Rattle.epx_blockers.specs.declared.blocker.Blocker.{Blocker}

-- the elements of `["blocks",r,i,alone,named]`: a missing instance, how many instances it blocks
-- alone, and how many depend on it
abbrev pub blocks_data : Blocker → List Data
blocks_data b = string (codes "blocks") ∷ data_of_number b.id.replica
    ∷ data_of_number b.id.number ∷ data_of_number b.alone ∷ data_of_number b.named ∷ []

-- the line `["blocks",r,i,alone,named]` of a missing instance, with both of its counts
abbrev pub blocks_line : Blocker → List ℕ
blocks_line b = line_of (blocks_data b)

-- the line `["several",n]`: more than one missing instance blocks each of n instances
abbrev pub several_line : ℕ → List ℕ
several_line n = line_of (string (codes "several") ∷ data_of_number n ∷ [])
