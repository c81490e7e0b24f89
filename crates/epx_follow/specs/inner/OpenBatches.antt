-- What a line that is not blank does to the open batch.
use Rattle.std.specs.Prelude.{◌≡◌, ◌⊎◌, ℕ, Bool, List, [], ◌++◌, Result, Ok, Err, MatchResult}
use Rattle.epx_types.specs.declared.fault.Fault.{Fault}
use Rattle.epx_types.specs.declared.fault.Fault.TheVariants.{Memory, BadLine}
use Rattle.epx_types.specs.declared.fault.Why.{Why}
use Rattle.epx_types.specs.declared.place.Place.{Place}
use Rattle.epx_lines.specs.between.Faults.{IsFaultOf}
use Rattle.epx_lines.specs.Lines.{lines_of}
use Rattle.epx_lines.specs.Meaning.{meaning_of}
use Rattle.epx_lines.specs.declared.Line.{Line}
use Rattle.epx_lines.specs.declared.LineFault.{LineFault}
use Rattle.epx_lines.specs.declared.Line.TheVariants.{Blank, Entry}
use Rattle.epx_follow.specs.Following.{FollowerView, passed, joined}
use Rattle.epx_follow.specs.LogsTaken.{TakesLines}

-- a line with this meaning came
abbrev pub after_meaning : FollowerView → Line → FollowerView
after_meaning v Blank = passed v
after_meaning v (Entry e) = joined v e

-- the line has a meaning, and the batch stays open
abbrev pub BatchGoesOn : List ℕ → FollowerView → FollowerView → Type 0
BatchGoesOn line v w = (l : Line) × (meaning_of line ≡ Ok l) × (w ≡ after_meaning v l)

-- what was read of the line: its meaning, or why it has none. Out of memory says nothing about it
abbrev pub IsReadOf : List ℕ → Result Line LineFault → Type 0
IsReadOf line read = MatchResult read (λ l. meaning_of line ≡ Ok l)
    (λ fault. IsFaultOf fault (meaning_of line))

-- why the line at this place is refused. Out of memory says nothing about it
abbrev pub RefusesText : List ℕ → Place → Fault → Type 0
RefusesText line place fault = (fault ≡ Memory)
    ⊎ ((why : Why) × (meaning_of line ≡ Err why) × (fault ≡ BadLine place why))

-- the first lines of the bytes end no batch, and these bytes are left
abbrev pub HoldsBytes : Bool → FollowerView → List ℕ → FollowerView → List ℕ → Type 0
HoldsBytes each v bytes w rest = (done : List (List ℕ))
    × (lines_of bytes ≡ done ++ lines_of rest) × TakesLines each v done w []
