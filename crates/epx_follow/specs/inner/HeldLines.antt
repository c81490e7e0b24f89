-- How a follower keeps the lines that it holds.
use Rattle.std.specs.Prelude.{◌≡◌, true, false, List, [], ◌∷◌, ◌++◌, length, map, zip, Contains}
use Rattle.std.specs.Prelude.{Option}
use Rattle.std.specs.Option.{unwrap_or}
use Rattle.std.specs.BTreeMap.{BTreeMap}
use Rattle.epx_types.specs.declared.id.Id.{Id}
use Rattle.epx_types.specs.declared.place.Place.{Place}
use Rattle.epx_types.specs.Instances.{Instance}
use Rattle.epx_types.specs.PlacedLines.{Placed}
use Rattle.epx_executor.specs.Commits.{AllWait, ExecutorView}
use Rattle.epx_follow.specs.declared.held_lines.HeldLines.{HeldLines}
use Rattle.epx_follow.specs.Following.{FollowerView, next_line}
use Rattle.epx_follow.specs.FollowerLaws.{executor_of}
use Rattle.epx_follow.specs.inner.FirstPlaces.{HasFirstPlaces, place_in}

-- what is seen where no place is noted: no line is here, since lines are numbered from 1
abbrev pub no_place : Place
no_place = record { log = 0; line = 0 }

-- pending instances, at the places that are noted
abbrev pub pending_lines : (Id → Option Place) → List Instance → List Placed
pending_lines noted m =
    map (λ e. record { place = unwrap_or (noted e.id) no_place; instance = e }) m

-- the lines of the open batch: their places and their instances
abbrev pub batch_lines : List Place → List Instance → List Placed
batch_lines places es = map (λ p. record { place = p.0; instance = p.1 }) (zip places es)

-- no instance of the batch is executed, what waits is not ready, and its places are noted
pub record AreHeld (noted : Id → Option Place) (v : FollowerView) : Type 0 where
  pub settled : AllWait (executor_of v)
  pub left : (p : Placed) → Contains v.batch p → ¬ Contains v.done p.instance.id
  pub first_places : HasFirstPlaces noted v.pending

-- what a follower shows of its executor and of the lines that it keeps
abbrev pub view_of : ExecutorView → HeldLines → FollowerView
view_of v h = record {
  done = v.done;
  store = v.store;
  pending = pending_lines (place_in h.places) v.pending;
  batch = batch_lines h.batch_places.items h.batch.items;
  next = h.next;
  is_open = h.is_open;
}

-- the lines that are kept fit the executor, and each instance of the batch has a place
abbrev pub IsHeld : ExecutorView → HeldLines → Type 0
IsHeld v h = AreHeld (place_in h.places) (view_of v h)
    × (length h.batch_places.items ≡ length h.batch.items)

-- no batch is open
abbrev pub AreNewlyHeld : BTreeMap Id Place → Place → HeldLines → Type 0
AreNewlyHeld places next h = (h.places ≡ places) × (h.batch.items ≡ [])
    × (h.batch_places.items ≡ []) × (h.next ≡ next) × (h.is_open ≡ false)

-- a line without an instance came
abbrev pub passed_lines : HeldLines → HeldLines
passed_lines h = record h { next = next_line h.next; is_open = true }

-- a line of this instance came, and it joined the batch
pub record HoldsEntry (old : HeldLines) (e : Instance) (new : HeldLines) : Type 0 where
  pub batch : new.batch.items ≡ old.batch.items ++ e ∷ []
  pub batch_places : new.batch_places.items ≡ old.batch_places.items ++ old.next ∷ []
  pub places : new.places ≡ old.places
  pub next : new.next ≡ next_line old.next
  pub is_open : new.is_open ≡ true
