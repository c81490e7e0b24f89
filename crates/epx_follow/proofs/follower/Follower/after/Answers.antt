use Rattle.std.proofs.Common.{◌∙◌}
use Rattle.epx_follow.specs.inner.FirstPlaces.{place_in}
use Rattle.epx_follow.proofs.AfterLemmas.{begun-is_after, AreHeld-after}
use Rattle.epx_follow.proofs.OpenBatchLemmas.{IsHeld-begun, view_of-begun}
use Rattle.epx_follow.proofs.follower.Follower.after.Goals as goal

pub invariant_of-result : goal.invariant_of-result
invariant_of-result c =
    let v = c.args.executor in
    let places = c.in_ok-places.places in
    IsHeld-begun v places (record { log = 0; line = 1 }) c.new.result c.new.ensures
    (AreHeld-after (place_in places) v c.args.log c.args.line c.in_ok-places.ensures.settled
    c.in_ok-places.ensures.places)

pub returns : goal.returns
returns c =
    let v = c.args.executor in
    let places = c.in_ok-places.places in
    view_of-begun v places (record { log = 0; line = 1 }) c.new.result c.new.ensures
    ∙ begun-is_after (place_in places) v c.args.log c.args.line c.in_ok-places.ensures.settled
    c.in_ok-places.ensures.places
