-- The lines of a trace: each a JSON array in compact form, ended by a line feed.
use Rattle.std.specs.Prelude.{ℕ, ℤ, Bool, List, [], ◌∷◌, Option, codes, if◌then◌else◌}
use Rattle.serde_json.specs.Data.{Data, string}
use Rattle.epx_types.specs.declared.id.Id.{Id}
use Rattle.epx_lines.specs.Text.{data_of_value}
use Rattle.epx_report.specs.ReportLines.{data_of_number, line_of}
use Rattle.epx_trace.specs.declared.touch.Touch.{Touch}
use Rattle.epx_trace.specs.declared.touch.Touch.TheVariants.{Write, Read}

-- the elements of the line `["write",r,i,before,after]` of an instance that writes the key; a value
-- is null where the key is absent
abbrev pub write_data : Id → Option ℤ → Option ℤ → List Data
write_data x before after = string (codes "write") ∷ data_of_number x.replica
    ∷ data_of_number x.number ∷ data_of_value before ∷ data_of_value after ∷ []

-- the elements of the line `["read",r,i,value]` of an instance that reads the key; the value is
-- null where the key is absent
abbrev pub read_data : Id → Option ℤ → List Data
read_data x value = string (codes "read") ∷ data_of_number x.replica ∷ data_of_number x.number
    ∷ data_of_value value ∷ []

-- the line of a write; that of a read if `reads` is true, and otherwise nothing
abbrev pub touch_line : Bool → Touch → List ℕ
touch_line reads (Write x before after) = line_of (write_data x before after)
touch_line reads (Read x value) = if reads then line_of (read_data x value) else []
