-- The lines of an execution order, of conflict levels, of an audit and of the verdict on a list:
-- each a JSON array in compact form, ended by a line feed.
use Rattle.std.specs.Prelude.{ℕ, List, [], ◌∷◌, codes}
use Rattle.serde_json.specs.Data.{Data, string}
use Rattle.epx_types.specs.declared.id.Id.{Id}
use Rattle.epx_types.specs.ExecutionOrder.{Ranked}
use Rattle.epx_report.specs.ReportLines.{data_of_number, line_of}

-- the elements of an order line: an instance, its depth and its leader
abbrev pub order_data : Id → ℕ → Id → List Data
order_data x depth leader = string (codes "order") ∷ data_of_number x.replica
    ∷ data_of_number x.number ∷ data_of_number depth ∷ data_of_number leader.replica
    ∷ data_of_number leader.number ∷ []

-- `["order",r,i,depth,lr,li]`, for a ready instance with its depth and its leader lr.li
abbrev pub order_line : Ranked → List ℕ
order_line r = line_of (order_data r.id r.depth r.leader)

-- the elements of a level line: an instance and the level of its command
abbrev pub level_data : Id → ℕ → List Data
level_data x level = string (codes "level") ∷ data_of_number x.replica ∷ data_of_number x.number
    ∷ data_of_number level ∷ []

-- `["level",r,i,level]`, for a ready instance and the level of its command
abbrev pub level_line : Id × ℕ → List ℕ
level_line p = line_of (level_data p.0 p.1)

-- `["name"]`, the line that has this name alone
abbrev pub name_line : List ℕ → List ℕ
name_line name = line_of (string name ∷ [])

-- `["covered"]`: of any two ready instances that conflict, one reaches the other
abbrev pub covered_line : List ℕ
covered_line = name_line (codes "covered")

-- the elements of an uncovered line: two ready instances that conflict, of which neither reaches
-- the other
abbrev pub uncovered_data : Id → Id → List Data
uncovered_data x y = string (codes "uncovered") ∷ data_of_number x.replica
    ∷ data_of_number x.number ∷ data_of_number y.replica ∷ data_of_number y.number ∷ []

-- `["uncovered",r,i,r2,i2]`, for two ready instances that conflict, of which neither reaches the
-- other
abbrev pub uncovered_line : Id → Id → List ℕ
uncovered_line x y = line_of (uncovered_data x y)

-- `["lawful"]`: the list is a lawful order, or a prefix of one where prefixes are checked
abbrev pub lawful_line : List ℕ
lawful_line = name_line (codes "lawful")

-- the elements of a line as `["early",p]`: the name of a fault, and the position of the list that
-- has it
abbrev pub position_data : List ℕ → ℕ → List Data
position_data name position = string name ∷ data_of_number position ∷ []

-- a line as `["early",p]`, for the position p of a list that has the named fault
abbrev pub position_line : List ℕ → ℕ → List ℕ
position_line name position = line_of (position_data name position)

-- the elements of a missing line: an instance that a list lacks or that no log commits
abbrev pub missing_data : Id → List Data
missing_data x = string (codes "missing") ∷ data_of_number x.replica ∷ data_of_number x.number ∷ []

-- `["missing",r,i]`, for an instance that a list lacks or that no log commits
abbrev pub missing_line : Id → List ℕ
missing_line x = line_of (missing_data x)
