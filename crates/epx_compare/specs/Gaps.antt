-- The instances that a log lacks, in gaps: longest runs of instances of one replica.
use Rattle.std.specs.Prelude.{ℕ, ◌==◌, ◌&&◌, ◌∷◌, Bool, false, not, List, [], if◌then◌else◌}
use Rattle.std.specs.List.{list_any}
use Rattle.epx_types.specs.declared.id.Id.{Id}
use Rattle.epx_types.specs.PlacedLines.{Placed}
use Rattle.epx_versions.specs.SameInstances.{same_id}

-- the log has a line of the instance
abbrev pub has_line : List Placed → ℕ → Id → Bool
has_line lines log x = list_any (λ p. (p.place.log == log) && same_id p.instance.id x) lines

-- instances of a replica, by the first and the last number
pub record Gap : Type 0 where
  pub replica : ℕ
  pub from : ℕ
  pub to : ℕ

-- there is a next Id, and it is of this replica and lacked too: `has` is false of it
abbrev pub goes_on : (Id → Bool) → ℕ → List Id → Bool
goes_on has replica [] = false
goes_on has replica (y ∷ ids) = (y.replica == replica) && not (has y)

-- the first of the gaps begins at this number instead
abbrev pub widened : ℕ → List Gap → List Gap
widened number [] = []
widened number (gap ∷ gaps) =
    record { replica = gap.replica; from = number; to = gap.to } ∷ gaps

-- the longest runs of Ids of one replica, next to each other in a rising list, that are lacked:
-- `has` is false of them. Ids that are not in the list do not end a run
abbrev pub gaps_of : (Id → Bool) → List Id → List Gap
gaps_of has [] = []
gaps_of has (x ∷ ids) =
    if has x then gaps_of has ids else
    (if goes_on has x.replica ids then widened x.number (gaps_of has ids) else
    (record { replica = x.replica; from = x.number; to = x.number } ∷ gaps_of has ids))
