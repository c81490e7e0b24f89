use Rattle.std.proofs.Common.{arith, rules}
use Rattle.epx_follow.specs.inner.FirstPlaces.{place_in}
use Rattle.epx_follow.proofs.BatchEndLemmas.{places-next}
use Rattle.epx_follow.proofs.line_places.places_among.Goals as goal

pub loop-entry-preserved : goal.loop-entry-preserved
loop-entry-preserved c =
    places-next (place_in c.args.places.now) c.args.entries.now c.loop-entry.entry-index
    c.entry-item.result c.loop-entry.found.items c.push.new.self.items c.unwrap_or.result
    (omega arith) c.loop-entry.invariant (search (rules, c.unwrap_or.ensures))
    c.in_ok-push.ensures.items
