-- What the lines before a line of a base say, and which lines are allowed next.
use Rattle.std.specs.Prelude.{ℕ, ℤ, ◌+◌, ◌-◌, ◌==◌, ◌&&◌, Bool, true, false, not, nat_lt, List, []}
use Rattle.std.specs.Prelude.{◌∷◌, ◌++◌, length, slice_get, Option, Some, None, option_map}
use Rattle.std.specs.Prelude.{if◌then◌else◌}
use Rattle.std.specs.BTreeSet.{insert_key}
use Rattle.std.specs.Ordering.{is_lt}
use Rattle.std.specs.declared.cmp.Ordering.{Ordering}
use Rattle.epx_types.specs.declared.id.Id.{Id}
use Rattle.epx_types.specs.Ids.{id_cmp}
use Rattle.epx_types.specs.Keys.{key_cmp}
use Rattle.epx_types.specs.Done.{is_among}
use Rattle.epx_report.specs.declared.from_value.Counts.{Counts}
use Rattle.epx_report.specs.declared.from_value.BaseLine.{BaseLine}
use Rattle.epx_report.specs.declared.from_value.BaseLine.TheVariants.{Header, Done, Reply, Waiting}
use Rattle.epx_report.specs.declared.from_value.BaseLine.TheVariants.{Store}

-- what the lines so far say
pub record Progress : Type 0 where
  -- the counts of the first line; None before it
  pub counts : Option Counts
  -- the instances of done lines and of reply lines, rising
  pub done : List Id
  -- the number of reply lines
  pub replies : ℕ
  -- the instances of waiting lines, in order
  pub waiting : List Id
  -- what the store lines say, in order
  pub stored : List (List ℕ × ℤ)

-- before the first line
abbrev pub nothing_seen : Progress
nothing_seen = record { counts = None; done = []; replies = 0; waiting = []; stored = [] }

-- the next state, if the line is allowed at its position
abbrev pub some_if : {S : Type 0} → Bool → S → Option S
some_if is_allowed next = if is_allowed then Some next else None

-- ---- rising lists

-- the last item of a list; None if the list is empty
abbrev pub last : {A : Type 0} → List A → Option A
last xs = slice_get xs (length xs - 1)

-- x is greater than the last one, if there is one
abbrev pub is_after_last : {A : Type 0} → (A → A → Ordering) → Option A → A → Bool
is_after_last cmp None x = true
is_after_last cmp (Some y) x = is_lt (cmp y x)

-- ---- the state after a line of each kind, if it is allowed at its position

-- a done line: before all reply, waiting and store lines, with a greater Id than the last done
-- line
abbrev pub after_done : Progress → Id → Option Progress
after_done s x =
    if (s.replies == 0) && (length s.waiting == 0) && (length s.stored == 0) && is_after_last
    id_cmp (last s.done) x
    then Some (record s { done = insert_key id_cmp s.done x }) else None

-- a reply line: while replies are missing (so there was no waiting and no store line), for an
-- instance that is not done yet
abbrev pub after_reply : Counts → Progress → Id → Option Progress
after_reply c s x =
    if nat_lt s.replies c.executed && not (is_among s.done x)
    then Some (record s { done = insert_key id_cmp s.done x; replies = s.replies + 1 }) else None

-- a waiting line: after all replies, while waiting lines are missing (so there was no store line),
-- for an instance that is not done, with a greater Id than the last waiting line
abbrev pub after_waiting : Counts → Progress → Id → Option Progress
after_waiting c s x =
    if (s.replies == c.executed) && nat_lt (length s.waiting) c.waiting && is_after_last id_cmp
    (last s.waiting) x && not (is_among s.done x)
    then Some (record s { waiting = s.waiting ++ x ∷ [] }) else None

-- a store line: after all replies and all waiting lines, with a greater key than the last store
-- line
abbrev pub after_store : Counts → Progress → List ℕ → ℤ → Option Progress
after_store c s k v =
    if (s.replies == c.executed) && (length s.waiting == c.waiting) && is_after_last key_cmp
    (option_map (λ p. p.0) (last s.stored)) k
    then Some (record s { stored = s.stored ++ (k, v) ∷ [] }) else None

-- the header is the first line and no other
abbrev pub after_with : Option Counts → Progress → BaseLine → Option Progress
after_with None s (Header c) = Some (record s { counts = Some c })
after_with None s line = None
after_with (Some c) s (Header d) = None
after_with (Some c) s (Done x) = after_done s x
after_with (Some c) s (Reply x) = after_reply c s x
after_with (Some c) s (Waiting x) = after_waiting c s x
after_with (Some c) s (Store k v) = after_store c s k v

-- the state after one more line; None if the line is not allowed at its position
unfoldable pub after : Progress → BaseLine → Option Progress
after s line = after_with s.counts s line

-- ---- the end

-- there was a header, and there are as many reply lines and waiting lines as it says
abbrev pub is_complete_with : Option Counts → Progress → Bool
is_complete_with None s = false
is_complete_with (Some c) s = (s.replies == c.executed) && (length s.waiting == c.waiting)

-- no line is missing
abbrev pub is_complete : Progress → Bool
is_complete s = is_complete_with s.counts s
