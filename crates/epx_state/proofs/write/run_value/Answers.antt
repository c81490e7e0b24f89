use Rattle.epx_state.proofs.LineReadingLemmas.{IsReadRun-within}
use Rattle.epx_state.proofs.write.run_value.Goals as goal

pub returns-in-Ok-json-8-clause-read : goal.returns-in-Ok-json-8-clause-read
returns-in-Ok-json-8-clause-read c =
    IsReadRun-within
    (record { replica = c.args.replica; first = c.args.first; last = c.args.last })
    c.ranges.replica.fits c.ranges.first.fits c.ranges.last.fits c.requires
