-- What each written part must satisfy: it reads as what was written, and is short.
use Rattle.std.specs.Prelude.{◌≡◌, ℕ, ◌^◌, ◌<◌, ◌≤◌, ℤ, length, Some, Ok}
use Rattle.serde_json.specs.Data.{number}
use Rattle.serde_json.specs.Find.{of_integer}
use Rattle.serde_json.specs.Written.{compact_text}
use Rattle.epx_types.specs.declared.id.Id.{Id}
use Rattle.epx_types.specs.declared.op.Op.{Op}
use Rattle.epx_types.specs.Instances.{Instance}
use Rattle.epx_lines.specs.declared.Line.TheVariants.{Entry}
use Rattle.epx_lines.specs.Meaning.{max_line_bytes, meaning_of_object}
use Rattle.epx_lines.specs.Elements.{signed}
use Rattle.epx_lines.specs.DependencyList.{id_of}
use Rattle.epx_lines.specs.OperationList.{op_of}
use Rattle.epx_lines.specs.Text.{data_of_id, data_of_op, object_of, line_text}

-- a dependency
pub record IsWritableId (x : Id) : Type 0 where
  pub reads : id_of (data_of_id x) ≡ Some x
  pub short : length (compact_text (data_of_id x)) ≤ 26

-- a value
pub record IsWritableValue (v : ℤ) : Type 0 where
  pub reads : signed (number (of_integer v)) ≡ Some v
  pub short : length (compact_text (number (of_integer v))) ≤ 20

-- an operation
pub record IsWritableOp (op : Op) : Type 0 where
  pub reads : op_of (data_of_op op) ≡ Some op
  pub short : length (compact_text (data_of_op op)) ≤ 782

-- the numbers of an entry
pub record FitNumbers (replica number seq : ℕ) : Type 0 where
  pub replica_fits : replica < 256
  pub number_fits : number < 2 ^ 64
  pub seq_fits : seq < 2 ^ 64

-- an entry
pub record IsWritableEntry (e : Instance) : Type 0 where
  pub reads : meaning_of_object (object_of e) ≡ Ok (Entry e)
  pub short : length (line_text e) ≤ max_line_bytes
