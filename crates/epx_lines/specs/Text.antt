-- How an instance is written as a line.
use Rattle.std.specs.Prelude.{ℕ, ℤ, List, map, codes, Option, Some, None}
use Rattle.serde_json.specs.Data.{Data, null, number, unsigned, string, array, object, item}
use Rattle.serde_json.specs.Data.{no_items, member, no_members}
use Rattle.serde_json.specs.Find.{of_integer}
use Rattle.serde_json.specs.View.{items_of}
use Rattle.serde_json.specs.Written.{compact_text}
use Rattle.epx_types.specs.declared.id.Id.{Id}
use Rattle.epx_types.specs.declared.op.Op.{Op}
use Rattle.epx_types.specs.declared.op.Op.TheVariants.{Get, Put, Del, Add, Is, Floor, Copy}
use Rattle.epx_types.specs.Instances.{Instance}

-- a dependency, as `[r,i]`
abbrev pub data_of_id : Id → Data
data_of_id x =
    array (item (number (unsigned x.replica)) (item (number (unsigned x.number)) no_items))

-- a value of the store: a number, or null where there is none
abbrev pub data_of_value : Option ℤ → Data
data_of_value None = null
data_of_value (Some v) = number (of_integer v)

-- `[name,key]`, an operation without an argument
abbrev pub op_pair : List ℕ → List ℕ → Data
op_pair name k = array (item (string name) (item (string k) no_items))

-- `[name,key,d]`, an operation with the argument d
abbrev pub op_triple : List ℕ → List ℕ → Data → Data
op_triple name k d = array (item (string name) (item (string k) (item d no_items)))

-- an operation as an array: its name, its key and, if it has one, its argument
unfoldable pub data_of_op : Op → Data
data_of_op (Get k) = op_pair (codes "get") k
data_of_op (Put k v) = op_triple (codes "put") k (number (of_integer v))
data_of_op (Del k) = op_pair (codes "del") k
data_of_op (Add k n) = op_triple (codes "add") k (number (of_integer n))
data_of_op (Is k o) = op_triple (codes "is") k (data_of_value o)
data_of_op (Floor k v) = op_triple (codes "floor") k (number (of_integer v))
data_of_op (Copy k j) = op_triple (codes "copy") k (string j)

-- the object with these members, in the order of their names
abbrev pub object_with : ℕ → ℕ → ℕ → Data → Data → Data
object_with r i seq deps ops = object (
    member (codes "deps") deps (
    member (codes "i") (number (unsigned i)) (
    member (codes "ops") ops (
    member (codes "r") (number (unsigned r)) (
    member (codes "seq") (number (unsigned seq)) no_members)))))

-- the JSON object of an instance, with its members `deps`, `i`, `ops`, `r` and `seq`
abbrev pub object_of : Instance → Data
object_of e = object_with e.id.replica e.id.number e.seq (array (items_of (map data_of_id e.deps)))
    (array (items_of (map data_of_op e.ops)))

-- the line of an instance, without its line feed:
-- `{"deps":[[r,i],..],"i":i,"ops":[op,..],"r":r,"seq":seq}`
abbrev pub line_text : Instance → List ℕ
line_text e = compact_text (object_of e)
