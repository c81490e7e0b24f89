use Rattle.epx_store.proofs.KeySlotLemmas.{apply_writes-entries}
use Rattle.epx_store.proofs.few_writes.FewWrites.put_into.Goals as goal

pub returns : goal.returns
returns c =
    apply_writes-entries (λ p. (p.0.now, p.1)) c.deref-key-items.result.now
    c.self.inside.items.items
    c.deref-key-items.ensures.value c.self.invariant c.args.self.now c.loop-key.key-index
    c.args.store.now c.loop-key.store c.self.view_is c.loop-key-test.false c.loop-key.invariant
