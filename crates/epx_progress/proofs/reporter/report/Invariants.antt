use Rattle.epx_claims.specs.between.Seated.{IsSeatOf}
use Rattle.epx_progress.proofs.reporter.report.Given as goal

abbrev pub invariant-loop : goal.invariant-loop
invariant-loop g l = IsSeatOf l.claims l.seat
