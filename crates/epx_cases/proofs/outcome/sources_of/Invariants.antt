use Rattle.std.proofs.Common.{◌≡◌, All, false}
use Rattle.epx_cases.proofs.outcome.sources_of.Given as goal

-- none of the sources so far has failed
abbrev pub invariant-loop-log : goal.invariant-loop-log
invariant-loop-log l = All (λ s. s.failed ≡ false) l.sources.items
