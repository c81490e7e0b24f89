use Rattle.std.proofs.lemmas.List.Sorted.{searched}
use Rattle.epx_audit.proofs.HashLemmas.{get_or-rising_upto, Contains-not_between}
use Rattle.epx_audit.proofs.doubtful_touches.doubtful_number.Goals as goal

pub returns-in-Err : goal.returns-in-Err
returns-in-Err c =
    let hashes = c.args.hashes.now in
    let at = rw c.in-Err.is at
    (searched hashes c.args.hash c.binary_search.result c.binary_search.ensures.position
    (get_or-rising_upto hashes c.requires)) in
    Contains-not_between hashes c.args.hash _ at.1 at.2
