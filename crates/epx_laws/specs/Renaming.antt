-- Renamings of keys and values, and what they make of commands, replies, contents, instances and
-- lines.
use Rattle.std.specs.Prelude.{◌≡◌, ℕ, ℤ, Bool, true, false, List, map, Contains, Option, option_map}
use Rattle.std.specs.FinMap as contents
use Rattle.epx_types.specs.declared.op.Op.{Op}
use Rattle.epx_types.specs.declared.op.Op.TheVariants.{Get, Put, Del, Add, Is, Floor, Copy}
use Rattle.epx_types.specs.declared.reply.Reply.{Reply}
use Rattle.epx_types.specs.declared.reply.Reply.TheVariants.{Values, Abort}
use Rattle.epx_types.specs.Instances.{Instance}
use Rattle.epx_types.specs.PlacedLines.{Placed}
use Rattle.epx_types.specs.Contents.{Contents}
use Rattle.epx_types.specs.Execution.{Execution}

-- different arguments have different results
abbrev pub IsInjective : {X Y : Type 0} → (X → Y) → Type 0
IsInjective {X} f = (x y : X) → f x ≡ f y → x ≡ y

-- a renaming: a function of keys and a function of values, each injective
pub record Renaming : Type 0 where
  pub key : List ℕ → List ℕ
  pub value : ℤ → ℤ
  pub keys_injective : IsInjective key
  pub values_injective : IsInjective value

-- the new name of a value; None, which is the absence of a key, stays None
abbrev pub renamed_value : Renaming → Option ℤ → Option ℤ
renamed_value r v = option_map r.value v

-- an operation with its keys renamed, and its value if it is a `put` or an `is`; the amount of an
-- `add` and the bound of a `floor` stay
abbrev pub renamed_op : Renaming → Op → Op
renamed_op r (Get k) = Get (r.key k)
renamed_op r (Put k v) = Put (r.key k) (r.value v)
renamed_op r (Del k) = Del (r.key k)
renamed_op r (Add k n) = Add (r.key k) n
renamed_op r (Is k v) = Is (r.key k) (renamed_value r v)
renamed_op r (Floor k least) = Floor (r.key k) least
renamed_op r (Copy k j) = Copy (r.key k) (r.key j)

-- a command with the keys and the values of its operations renamed
abbrev pub renamed_command : Renaming → List Op → List Op
renamed_command r ops = map (renamed_op r) ops

-- a list of commands, each with its keys and values renamed
abbrev pub renamed_commands : Renaming → List (List Op) → List (List Op)
renamed_commands r commands = map (renamed_command r) commands

-- a reply with the values that were read renamed; an abort names the same operation
abbrev pub renamed_reply : Renaming → Reply → Reply
renamed_reply r (Values got) = Values (map (renamed_value r) got)
renamed_reply r (Abort j) = Abort j

-- contents with the renamed value under each renamed key, and no other keys
abbrev pub renamed_contents : Renaming → Contents → Contents
renamed_contents r c = contents.from_entries
    (map (λ e. (r.key e.0, r.value e.1)) (contents.entries c))

-- the replies and the final contents of an execution, renamed
abbrev pub renamed_execution : Renaming → Execution → Execution
renamed_execution r e =
    record { replies = map (renamed_reply r) e.replies; final = renamed_contents r e.final }

-- an instance with its command renamed; Id, sequence number and dependencies stay
abbrev pub renamed_instance : Renaming → Instance → Instance
renamed_instance r e = record e { ops = renamed_command r e.ops }

-- a committed map in which the command of each instance is renamed
abbrev pub renamed_map : Renaming → List Instance → List Instance
renamed_map r m = map (renamed_instance r) m

-- a line whose instance has a renamed command, at the same place
abbrev pub renamed_line : Renaming → Placed → Placed
renamed_line r p = record p { instance = renamed_instance r p.instance }

-- lines whose instances have renamed commands, each at its place
abbrev pub renamed_lines : Renaming → List Placed → List Placed
renamed_lines r lines = map (renamed_line r) lines

-- whether the operation is an `add` or a `floor`, which calculate with values; the others only move
-- and compare them
abbrev pub is_arithmetic : Op → Bool
is_arithmetic (Get k) = false
is_arithmetic (Put k v) = false
is_arithmetic (Del k) = false
is_arithmetic (Add k n) = true
is_arithmetic (Is k v) = false
is_arithmetic (Floor k least) = true
is_arithmetic (Copy k j) = false

-- a command without `add` and `floor`: it only moves and compares values
abbrev pub HasNoArithmetic : List Op → Type 0
HasNoArithmetic ops = (op : Op) → Contains ops op → is_arithmetic op ≡ false
