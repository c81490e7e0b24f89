-- The lines of a call of the executor. Those of log 0 name the lines of pending instances, and
-- those of log 1 the lines of the batch.
use Rattle.std.specs.Prelude.{◌-◌, cond, nat_eq, List, map, get_or}
use Rattle.epx_types.specs.declared.fault.Fault.{Fault}
use Rattle.epx_types.specs.declared.fault.Fault.TheVariants.{Disagree}
use Rattle.epx_types.specs.declared.place.Place.{Place}
use Rattle.epx_types.specs.PlacedLines.{Placed}

-- the places of lines, in the order of the lines
abbrev pub held_places : List Placed → List Place
held_places lines = map (λ p. p.place) lines

-- the place of a line of a call: that of element `at.line`, counted from 1, of `pending` if its log
-- is 0, and of `batch` otherwise
abbrev pub place_among : List Place → List Place → Place → Place
place_among pending batch at =
    get_or (cond (nat_eq at.log 0) pending batch) (at.line - 1) at

-- the fault of a call, where a disagreement names the places of its two lines (`place_among`); any
-- other fault stays as it is
abbrev pub at_lines : List Place → List Place → Fault → Fault
at_lines pending batch (Disagree id first second) =
    Disagree id (place_among pending batch first) (place_among pending batch second)
at_lines pending batch fault = fault
