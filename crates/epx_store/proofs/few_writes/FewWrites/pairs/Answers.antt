use Rattle.std.proofs.Common.{◌∙◌, ◌++◌, ◌∷◌, [], ap}
use Rattle.epx_store.proofs.KeySlotLemmas.{map-take_step, entries-all_listed}
use Rattle.epx_store.proofs.few_writes.FewWrites.pairs.Goals as goal

pub loop-key-preserved : goal.loop-key-preserved
loop-key-preserved c =
    map-take_step (λ p. (p.0.now, p.1)) c.deref-key-items.result.now c.loop-key.key-index
    c.loop-key-item.result c.loop-key.pairs.items c.push.new.self.items c.loop-key-test.true
    c.loop-key-item.is c.loop-key.invariant
    (c.in_ok-push.ensures.items ∙ ap
    (λ k. c.loop-key.pairs.items ++ (k, c.loop-key-item.result.1) ∷ []) c.in_ok-copy.ensures)

pub returns : goal.returns
returns c =
    entries-all_listed (λ p. (p.0.now, p.1)) c.deref-key-items.result.now c.self.inside.items.items
    c.deref-key-items.ensures.value c.self.invariant c.args.self.now c.loop-key.key-index
    c.loop-key.pairs.items c.self.view_is c.loop-key-test.false c.loop-key.invariant
