use Rattle.epx_claims.specs.between.Seated.{IsSeatOf}
use Rattle.epx_progress.proofs.reporter.use_up.Given as goal

abbrev pub invariant-loop : goal.invariant-loop
invariant-loop l = IsSeatOf l.claims l.seat
