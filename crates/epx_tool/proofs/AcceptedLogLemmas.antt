-- What follows for accepted logs.
use Rattle.std.proofs.Common.{◌≤◌, ℕ, List, length, ap, arith}
use Rattle.epx_types.proofs.Common.{length-map, Instance, max_instances}
use Rattle.epx_merge.specs.LogLines.{placed_of}
use Rattle.epx_merge.specs.Acceptance.{IsAccepted}
use Rattle.epx_committed.proofs.InstanceCountLemmas.{ids_of-named}

pub length-accepted_within : (logs : List (List ℕ)) (m : List Instance) → IsAccepted logs m
    → length m ≤ max_instances
length-accepted_within logs m accepted =
    let small = accepted.small in
    let same = ids_of-named (placed_of logs) m small.0 accepted.committed small.1 in
    omega (arith, small.2, ap length same, length-map m (λ (e : Instance). e.id))
