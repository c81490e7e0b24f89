use Rattle.epx_store.proofs.MapLoopLemmas.{write_all-of_tree}
use Rattle.epx_store.proofs.key_map.KeyMap.copy.Goals as goal

pub returns : goal.returns
returns g c =
    let read = c.into_iter-key-iterator.ensures.into_iter_gives in
    write_all-of_tree c.self.inside.map c.args.self.now c.self.view_is read.5 c.loop-key.made
    c.loop-key.key-iterator c.into_iter-key-iterator.result c.in-None.ensures.steps.0
    c.loop-key.invariant read.0
