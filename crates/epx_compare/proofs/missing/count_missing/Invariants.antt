use Rattle.std.proofs.Common.{ℕ, take}
use Rattle.epx_types.specs.declared.id.Id.{Id}
use Rattle.epx_compare.specs.inner.MissingCounts.{AreCounts, with_one, is_missing}
use Rattle.epx_compare.proofs.missing.count_missing.Given as goal

abbrev pub invariant-loop-dep : goal.invariant-loop-dep
invariant-loop-dep l = (counted : Id → ℕ) → AreCounts counted l.initial.counts.entries
    → AreCounts (with_one (is_missing l.ids (take l.dep-index l.deps)) counted) l.counts.entries
