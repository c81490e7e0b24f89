-- Laws of what logs say against each other.
use Rattle.std.specs.Prelude.{◌≡◌, ◌↔◌, ℕ, List, [], ◌∷◌, flat_map, Contains}
use Rattle.epx_types.specs.declared.id.Id.{Id}
use Rattle.epx_types.specs.Instances.{Instance}
use Rattle.epx_types.specs.CommittedMap.{IsCommittedBy}
use Rattle.epx_committed.specs.InstanceCounts.{AreNamedBy, FewInstances}
use Rattle.epx_merge.specs.Acceptance.{IsAccepted}
use Rattle.epx_merge.specs.LogLines.{placed_of, bad_lines_of}
use Rattle.epx_merge.specs.Refusals.{FitLimits}
use Rattle.epx_compare.specs.Comparisons.{IsComparison, HasFindings, bad_text, difference_text}

-- any logs have a text that compares them (`IsComparison`)
abbrev pub ComparisonExists : Type 0
ComparisonExists = (logs : List (List ℕ)) → (text : List ℕ) × IsComparison logs text

-- logs have at most one text that compares them
abbrev pub ComparisonIsUnique : Type 0
ComparisonIsUnique = (logs : List (List ℕ)) (a b : List ℕ) → IsComparison logs a
    → IsComparison logs b → a ≡ b

-- the comparison of the logs has no line `bad`, and no line `differs` of any of these Ids
abbrev pub SaysNothingDiffers : List (List ℕ) → List Id → Type 0
SaysNothingDiffers logs ids = (bad_text (bad_lines_of logs) ≡ [])
    × (flat_map (difference_text (placed_of logs)) ids ≡ [])

-- where logs and instances are within their limits and `ids` has the Ids of all lines, the
-- comparison shows no bad line and no difference exactly if the logs are accepted
abbrev pub NothingDiffersWhereLogsAgree : Type 0
NothingDiffersWhereLogsAgree = (logs : List (List ℕ)) (ids : List Id) → FitLimits logs
    → FewInstances (placed_of logs) → AreNamedBy (placed_of logs) ids
    → SaysNothingDiffers logs ids ↔ ((m : List Instance) × IsAccepted logs m)

-- where logs and instances are within their limits, nothing is found wrong exactly if the logs are
-- accepted and each of them alone commits what all of them commit
abbrev pub NothingFoundWhereLogsAreAlike : Type 0
NothingFoundWhereLogsAreAlike = (logs : List (List ℕ)) → FitLimits logs
    → FewInstances (placed_of logs) → (¬ HasFindings logs)
    ↔ ((m : List Instance) × IsAccepted logs m
    × ((log : List ℕ) → Contains logs log → IsCommittedBy (placed_of (log ∷ [])) m))
