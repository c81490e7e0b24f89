-- What commands do with one key when they are executed one after another.
use Rattle.std.specs.Prelude.{ℕ, Bool, List, [], ◌∷◌, ◌++◌, map, if◌then◌else◌}
use Rattle.std.specs.List.{list_any}
use Rattle.std.specs.FinMap as contents
use Rattle.std.specs.Ordering.{is_eq}
use Rattle.epx_types.specs.declared.id.Id.{Id}
use Rattle.epx_types.specs.declared.op.Op.{Op}
use Rattle.epx_types.specs.Keys.{key_cmp}
use Rattle.epx_types.specs.Contents.{Contents}
use Rattle.epx_types.specs.Commands.{command_on}
use Rattle.epx_types.specs.CommandKeys.{touched_keys}
use Rattle.epx_types.specs.Writes.{writes_of}
use Rattle.epx_trace.specs.declared.touch.Touch.{Touch}
use Rattle.epx_trace.specs.declared.touch.Touch.TheVariants.{Write, Read}

-- an instance and its command
abbrev pub IdCommand : Type 0
IdCommand = Id × List Op

-- the key is one of these keys
abbrev pub has_key : List (List ℕ) → List ℕ → Bool
has_key keys k = list_any (λ j. is_eq (key_cmp k j)) keys

-- the command, executed over the contents c, writes the key. A command that aborts writes nothing
abbrev pub writes_key : List Op → Contents → List ℕ → Bool
writes_key ops c k = has_key (map (λ w. w.0) (writes_of ops c)) k

-- what a command does with the key over the contents c: a write, with the values before and after
-- the command, if it writes the key; otherwise a read of the value
abbrev pub touch_of : IdCommand → Contents → List ℕ → Touch
touch_of p c k = if writes_key p.1 c k
    then Write p.0 (contents.get c k) (contents.get (command_on p.1 c).after k)
    else Read p.0 (contents.get c k)

-- the command's touch of the key over the contents c; none if its text does not have the key
abbrev pub touches_of : IdCommand → Contents → List ℕ → List Touch
touches_of p c k = if has_key (touched_keys p.1) k then touch_of p c k ∷ [] else []

-- the touches of the key when all commands are executed one after another from the contents c, in
-- this order; a command whose text does not have the key has none
abbrev pub trace_of : List IdCommand → Contents → List ℕ → List Touch
trace_of [] c k = []
trace_of (p ∷ rest) c k = touches_of p c k ++ trace_of rest (command_on p.1 c).after k
