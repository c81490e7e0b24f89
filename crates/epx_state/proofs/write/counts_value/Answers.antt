use Rattle.epx_state.proofs.LineReadingLemmas.{AreReadCounts-within}
use Rattle.epx_state.proofs.write.counts_value.Goals as goal

pub returns-in-Ok-json-14-clause-read : goal.returns-in-Ok-json-14-clause-read
returns-in-Ok-json-14-clause-read c =
    AreReadCounts-within
    (record { runs = c.args.runs; waiting = c.args.waiting; stored = c.args.stored })
    c.ranges.runs.fits c.ranges.waiting.fits c.ranges.stored.fits
