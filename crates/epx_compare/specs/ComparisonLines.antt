-- The lines of a comparison: each a JSON array in compact form, ended by a line feed.
use Rattle.std.specs.Prelude.{ℕ, ◌∷◌, List, [], map, codes}
use Rattle.serde_json.specs.Data.{Data, string}
use Rattle.epx_types.specs.declared.id.Id.{Id}
use Rattle.epx_types.specs.declared.place.Place.{Place}
use Rattle.epx_types.specs.Faults.{why_text}
use Rattle.epx_merge.specs.LogLines.{BadLineAt}
use Rattle.epx_report.specs.ReportLines.{array_of, data_of_number}
use Rattle.epx_compare.specs.Gaps.{Gap}

-- the elements of `["log",L,lines,bad]`: log L, how many of its lines commit an instance, and how
-- many are bad
abbrev pub log_data : ℕ → ℕ → ℕ → List Data
log_data log lines bad = string (codes "log") ∷ data_of_number log ∷ data_of_number lines
    ∷ data_of_number bad ∷ []

-- the elements of `["bad",L,N,"WHY"]`: line N of log L is bad, and why
abbrev pub bad_data : BadLineAt → List Data
bad_data b = string (codes "bad") ∷ data_of_number b.place.log ∷ data_of_number b.place.line
    ∷ string (why_text b.why) ∷ []

-- a place, as `[L,N]`: log L and line N
abbrev pub place_data : Place → Data
place_data p = array_of (data_of_number p.log ∷ data_of_number p.line ∷ [])

-- the places of lines that commit the same, as `[[L,N],..]`
abbrev pub group_data : List Place → Data
group_data places = array_of (map place_data places)

-- the elements of `["differs",r,i,[MEMBER,..],[GROUP,..]]`: an instance, the members in which its
-- lines differ, and the places of its lines, in groups that commit the same
abbrev pub differs_data : Id → List (List ℕ) → List (List Place) → List Data
differs_data x members groups = string (codes "differs") ∷ data_of_number x.replica
    ∷ data_of_number x.number ∷ array_of (map string members)
    ∷ array_of (map group_data groups) ∷ []

-- the elements of `["lacks",L,r,from,to]`: log L, and the replica, the first and the last number of
-- a gap
abbrev pub lacks_data : ℕ → Gap → List Data
lacks_data log gap = string (codes "lacks") ∷ data_of_number log ∷ data_of_number gap.replica
    ∷ data_of_number gap.from ∷ data_of_number gap.to ∷ []

-- the elements of `["missing",r,i,count]`: an instance that no log commits, and how many instances
-- depend on it
abbrev pub missing_count_data : Id → ℕ → List Data
missing_count_data x count = string (codes "missing") ∷ data_of_number x.replica
    ∷ data_of_number x.number ∷ data_of_number count ∷ []
