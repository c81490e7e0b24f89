-- What a follower holds between two lines.
use Rattle.std.specs.Prelude.{◌≡◌, ◌+◌, ℕ, Bool, true, false, List, [], ◌∷◌, ◌++◌, map}
use Rattle.std.specs.Prelude.{if◌then◌else◌}
use Rattle.std.specs.FinMap as contents
use Rattle.epx_types.specs.declared.id.Id.{Id}
use Rattle.epx_types.specs.declared.place.Place.{Place}
use Rattle.epx_types.specs.Contents.{Contents}
use Rattle.epx_types.specs.Done.{is_among}
use Rattle.epx_types.specs.Instances.{Instance}
use Rattle.epx_types.specs.PlacedLines.{Placed}
use Rattle.epx_executor.specs.CallLines.{lines_from}
use Rattle.epx_executor.specs.Commits.{ExecutorView}

-- what a follower holds between two lines: the executed instances, the store, the lines of the
-- pending instances and those of the open batch, the place of the next line, and whether a batch is
-- open
pub record FollowerView : Type 0 where
  -- the executed instances
  pub done : List Id
  -- the contents of the store
  pub store : Contents
  -- the committed instances that wait, by rising Id, each at the place of the first line that came
  pub pending : List Placed
  -- the lines of the open batch that commit an instance, without those of executed instances
  pub batch : List Placed
  -- the place of the next line
  pub next : Place
  -- whether a line came since the last batch ended
  pub is_open : Bool

-- a follower before its first line, which is line 1 of log 0: nothing is executed, stored or held
abbrev pub new_follower : FollowerView
new_follower = record {
  done = [];
  store = contents.empty;
  pending = [];
  batch = [];
  next = record { log = 0; line = 1 };
  is_open = false;
}

-- the follower that holds what the executor holds, and has no open batch. The pending instances
-- have consecutive lines of this log, from this line on; line 1 of log 0 is the next
abbrev pub follower_after : ExecutorView → ℕ → ℕ → FollowerView
follower_after v log line = record {
  done = v.done;
  store = v.store;
  pending = lines_from log line v.pending;
  batch = [];
  next = record { log = 0; line = 1 };
  is_open = false;
}

-- no line came since the last batch ended
abbrev pub IsClosed : FollowerView → Type 0
IsClosed v = (v.batch ≡ []) × (v.is_open ≡ false)

-- the instances of lines, in the order of the lines
abbrev pub instances_of : List Placed → List Instance
instances_of lines = map (λ p. p.instance) lines

-- the lines that are held: those of the pending instances, by rising Id, and then those of the open
-- batch, as they came
abbrev pub held_lines : FollowerView → List Placed
held_lines v = v.pending ++ v.batch

-- the place of the line after this one
abbrev pub next_line : Place → Place
next_line p = record { log = p.log; line = p.line + 1 }

-- the follower once its log ended: its next line is line 1 of the next log
abbrev pub at_next_log : FollowerView → FollowerView
at_next_log v = record v { next = record { log = v.next.log + 1; line = 1 } }

-- the follower after a line without an instance: the batch is open, and the next line is one
-- further on
abbrev pub passed : FollowerView → FollowerView
passed v = record v { next = next_line v.next; is_open = true }

-- the batch with a line of this instance, unless the instance is executed
abbrev pub batch_with : FollowerView → Instance → List Placed
batch_with v e =
    if is_among v.done e.id then v.batch
    else v.batch ++ record { place = v.next; instance = e } ∷ []

-- the follower after a line of this instance: the batch is open and has the line, unless the
-- instance is executed, and the next line is one further on
abbrev pub joined : FollowerView → Instance → FollowerView
joined v e = record v { batch = batch_with v e; next = next_line v.next; is_open = true }
