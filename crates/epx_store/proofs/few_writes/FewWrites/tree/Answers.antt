use Rattle.std.proofs.Common.{◌∙◌, ap}
use Rattle.std.specs.FinMap as contents
use Rattle.epx_store.proofs.KeySlotLemmas.{write_all-from_empty, write_all-step, write_all-at_end}
use Rattle.epx_store.proofs.few_writes.FewWrites.tree.Goals as goal

pub loop-key-init : goal.loop-key-init
loop-key-init c =
    write_all-from_empty (λ p. (p.0.now, p.1)) c.deref-key-items.result.now
    c.self.inside.items.items
    c.deref-key-items.ensures.value c.self.invariant c.new-tree.result c.new-tree.ensures

pub loop-key-preserved : goal.loop-key-preserved
loop-key-preserved c =
    write_all-step (λ p. (p.0.now, p.1)) c.deref-key-items.result.now c.loop-key.key-index
    c.loop-key-item.result c.loop-key.tree c.insert.new.self _ c.loop-key-test.true
    c.loop-key-item.is c.loop-key.invariant
    (c.in_ok-insert.ensures.ok ∙ ap
    (λ k. contents.insert c.loop-key.tree k c.loop-key-item.result.1) c.in_ok-copy.ensures)

pub returns : goal.returns
returns c =
    write_all-at_end (λ p. (p.0.now, p.1)) c.deref-key-items.result.now c.self.inside.items.items
    c.deref-key-items.ensures.value c.self.invariant c.args.self.now c.loop-key.tree
    c.loop-key.key-index c.self.view_is c.loop-key-test.false c.loop-key.invariant
