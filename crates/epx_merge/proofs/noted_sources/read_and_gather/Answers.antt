use Rattle.std.proofs.Common.{rules}
use Rattle.epx_merge.proofs.noted_sources.read_and_gather.Goals as goal

pub returns-clause-lines : goal.returns-clause-lines
returns-clause-lines g c = λ first lines h.
    let ends = c.read_during.ensures.more.met.1.0 first lines h in
    search (rules, ends)
