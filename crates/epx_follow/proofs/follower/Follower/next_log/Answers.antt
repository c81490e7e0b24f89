use Rattle.epx_follow.specs.inner.FirstPlaces.{place_in}
use Rattle.epx_follow.proofs.HeldLineLemmas.{AreHeld-next_log}
use Rattle.epx_follow.proofs.HoldLemmas.{shown}
use Rattle.epx_follow.proofs.follower.Follower.next_log.Goals as goal

pub invariant_of-follower : goal.invariant_of-follower
invariant_of-follower c =
    let f = c.follower.inside in (
      AreHeld-next_log (place_in f.held.places)
          (shown f.executor.done f.executor.store (place_in f.held.places) f.executor.pending
          f.held.batch_places.items f.held.batch.items f.held.next f.held.is_open)
          c.follower.invariant.0,
      c.follower.invariant.1,
    )
