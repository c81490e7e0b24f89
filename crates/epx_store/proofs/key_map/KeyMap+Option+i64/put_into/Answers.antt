use Rattle.epx_store.proofs.MapLoopLemmas.{apply_writes-of_tree}
use Rattle.epx_store.proofs.key_map.KeyMap+Option+i64.put_into.Goals as goal

pub returns : goal.returns
returns c =
    let read = c.into_iter-key-iterator.ensures.into_iter_gives in
    apply_writes-of_tree c.self.inside.map c.args.self.now c.self.view_is read.5 c.args.store.now
    c.loop-key.store c.loop-key.key-iterator c.into_iter-key-iterator.result
    c.in-None.ensures.steps.0 c.loop-key.invariant read.0
