use Rattle.std.proofs.Common.{◌∙◌, ap, Some}
use Rattle.epx_store.proofs.KeySlotLemmas.{get-at_slot, get-absent, get_or-shown}
use Rattle.epx_store.proofs.few_writes.FewWrites.get.Goals as goal

pub returns-in-Ok : goal.returns-in-Ok
returns-in-Ok c =
    let there = rw c.as_slice.ensures.value at c.in-Ok.ensures in
    ap (λ p. Some p.1) (get_or-shown (λ p. (p.0.now, p.1)) c.self.inside.items.items c.in-Ok.index
    c.index.result.now c.index.ensures)
    ∙ get-at_slot _ c.args.self.now c.self.view_is c.args.key.now c.in-Ok.index _ there

pub returns-in-Err : goal.returns-in-Err
returns-in-Err c =
    let nowhere = rw c.as_slice.ensures.value at c.in-Err.ensures in
    get-absent _ c.args.self.now c.self.view_is c.args.key.now _ nowhere
