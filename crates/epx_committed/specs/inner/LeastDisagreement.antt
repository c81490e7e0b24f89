-- The disagreement of the least Id.
use Rattle.std.specs.Prelude.{List, map, Contains, Option, Some, None}
use Rattle.epx_types.specs.declared.id.Id.{Id}
use Rattle.epx_types.specs.Ids.{UpTo}
use Rattle.epx_committed.specs.declared.ledger.Disagreement.{Disagreement}

-- one of the disagreements, whose Id is at most each Id with a disagreement; None if there is none
abbrev pub IsLeastDisagreement : List (Id × Disagreement) → Option (Id × Disagreement) → Type 0
IsLeastDisagreement entries None = (x : Id) → ¬ Contains (map (λ e. e.0) entries) x
IsLeastDisagreement entries (Some e) =
    Contains entries e × ((x : Id) → Contains (map (λ e. e.0) entries) x → UpTo e.0 x)
