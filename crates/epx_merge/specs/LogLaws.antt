-- Laws of refusals and of accepted logs.
use Rattle.std.specs.Prelude.{◌≡◌, ◌≢◌, ◌⊎◌, ℕ, List, Contains}
use Rattle.epx_types.specs.declared.fault.Fault.{Fault}
use Rattle.epx_types.specs.declared.fault.Fault.TheVariants.{Memory}
use Rattle.epx_types.specs.declared.fault.Why.{Why}
use Rattle.epx_types.specs.declared.place.Place.{Place}
use Rattle.epx_types.specs.Instances.{Instance}
use Rattle.epx_types.specs.PlacedLines.{Earlier, HaveDistinctPlaces}
use Rattle.epx_merge.specs.LogLines.{placed_of, BadLineAt, bad_lines_of}
use Rattle.epx_merge.specs.Refusals.{IsFirstBadLine, IsRefusal}
use Rattle.epx_merge.specs.Acceptance.{IsAccepted}

-- accepted logs are not refused, except by running out of memory
abbrev pub AcceptedIsNotRefused : Type 0
AcceptedIsNotRefused = (logs : List (List ℕ)) (m : List Instance) (f : Fault) → IsAccepted logs m
    → f ≢ Memory → ¬ IsRefusal logs f

-- logs have at most one refusal, except running out of memory
abbrev pub RefusalIsUnique : Type 0
RefusalIsUnique = (logs : List (List ℕ)) (f g : Fault) → f ≢ Memory → g ≢ Memory → IsRefusal logs f
    → IsRefusal logs g → f ≡ g

-- accepted logs commit one map
abbrev pub AcceptedMapIsUnique : Type 0
AcceptedMapIsUnique = (logs : List (List ℕ)) (m n : List Instance) → IsAccepted logs m
    → IsAccepted logs n → m ≡ n

-- every list of logs is accepted, or has a refusal other than out of memory
abbrev pub LogsHaveAnAnswer : Type 0
LogsHaveAnAnswer = (logs : List (List ℕ)) → ((m : List Instance) × IsAccepted logs m)
    ⊎ ((f : Fault) × (f ≢ Memory) × IsRefusal logs f)

-- no two lines of logs that commit an instance have the same place
abbrev pub LinesHaveDistinctPlaces : Type 0
LinesHaveDistinctPlaces = (logs : List (List ℕ)) → HaveDistinctPlaces (placed_of logs)

-- the bad line in a refusal comes before all other bad lines
abbrev pub NamedBadLineIsLeast : Type 0
NamedBadLineIsLeast = (logs : List (List ℕ)) (place : Place) (why : Why)
    → IsFirstBadLine (bad_lines_of logs) place why → (x : BadLineAt)
    → Contains (bad_lines_of logs) x → (place ≡ x.place) ⊎ Earlier place x.place
