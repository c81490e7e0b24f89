-- The lines about one instance, and the line of a path: each a JSON array in compact form, ended by
-- a line feed.
use Rattle.std.specs.Prelude.{ℕ, List, [], ◌∷◌, map, codes}
use Rattle.serde_json.specs.Data.{Data, string}
use Rattle.epx_types.specs.declared.id.Id.{Id}
use Rattle.epx_types.specs.ExecutionOrder.{Ranked}
use Rattle.epx_report.specs.ReportLines.{array_of, data_of_number, line_of}
use Rattle.epx_report.specs.ViewLines.{name_line}
use Rattle.epx_why.specs.declared.need.Need.{Need}

-- the elements of `["ready",r,i,p,depth,lr,li]`: a ready instance, its position in the execution
-- order, its depth and its leader
abbrev pub ready_data : Id → ℕ → ℕ → Id → List Data
ready_data x position depth leader = string (codes "ready") ∷ data_of_number x.replica
    ∷ data_of_number x.number ∷ data_of_number position ∷ data_of_number depth
    ∷ data_of_number leader.replica ∷ data_of_number leader.number ∷ []

-- the line `["ready",r,i,p,depth,lr,li]` of a ready instance at position p of the execution order,
-- counted from 0, with its depth and its leader lr.li
abbrev pub ready_line : ℕ → Ranked → List ℕ
ready_line position r = line_of (ready_data r.id position r.depth r.leader)

-- the elements of `[name,r,i,steps]`: an instance at the other end of a path, and the steps of the
-- path
abbrev pub need_data : List ℕ → Need → List Data
need_data name n = string name ∷ data_of_number n.id.replica ∷ data_of_number n.id.number
    ∷ data_of_number n.steps ∷ []

-- the line `[name,r,i,steps]` of an instance at the other end of a path: `needs` names one that the
-- path leads to, and `needed` one that it leads from
abbrev pub need_line : List ℕ → Need → List ℕ
need_line name n = line_of (need_data name n)

-- an instance as an array: `[r,i]`
abbrev pub id_data : Id → Data
id_data x = array_of (data_of_number x.replica ∷ data_of_number x.number ∷ [])

-- the elements of `["path",[r,i],..]`: the instances of a path
abbrev pub path_data : List Id → List Data
path_data ids = string (codes "path") ∷ map id_data ids

-- the line `["path",[r,i],..,[r2,i2]]` of a path, with all its instances from one end to the other
abbrev pub path_line : List Id → List ℕ
path_line ids = line_of (path_data ids)

-- the line `["none"]`, where no path leads from one instance to the other
abbrev pub none_line : List ℕ
none_line = name_line (codes "none")
