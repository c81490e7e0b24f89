use Rattle.std.proofs.Common.{◌≡◌, false}
use Rattle.epx_types.proofs.Common.{All-push}
use Rattle.epx_cases.proofs.outcome.sources_of.Goals as goal

pub loop-log-preserved : goal.loop-log-preserved
loop-log-preserved c =
    rw c.in_ok-push.ensures.items
    (All-push (λ s. s.failed ≡ false) _ _ c.loop-log.invariant c.source.ensures)
