use Rattle.std.proofs.Common.{[]}
use Rattle.epx_store.proofs.MapLoopLemmas.{entries-listed_after}
use Rattle.epx_store.proofs.key_map.KeyMap.into_pairs.Goals as goal

pub returns : goal.returns
returns g c =
    let read = c.into_iter-key-iterator.ensures.into_iter_gives in
    entries-listed_after c.self.inside.map c.args.self c.self.view_is read.5 []
    c.loop-key.pairs.items
    c.loop-key.key-iterator c.into_iter-key-iterator.result c.in-None.ensures.steps.0
    c.loop-key.invariant read.0
