use Rattle.std.proofs.Common.{arith}
use Rattle.epx_store.proofs.KeySlotLemmas.{is_sorted-put, from_entries-put, len-shown}
use Rattle.epx_store.proofs.KeySlotLemmas.{map-set_at_slot}
use Rattle.epx_store.proofs.KeySlotLemmas.{map-insert_at_slot}
use Rattle.epx_store.proofs.few_writes.FewWrites.set.Goals as goal

pub invariant_of-self : goal.invariant_of-self
invariant_of-self c =
    let there = rw c.as_slice.ensures.value at c.in-Ok.ensures in
    is_sorted-put _ c.self.invariant c.args.key.now c.args.value _
    (map-set_at_slot (λ p. (p.0.now, p.1)) c.self.inside.items.items c.in-Ok.index
    (c.args.key, c.args.value) there)

pub returns-in-Ok-clause-after : goal.returns-in-Ok-clause-after
returns-in-Ok-clause-after c =
    let there = rw c.as_slice.ensures.value at c.in-Ok.ensures in
    from_entries-put _ c.self.invariant c.args.key.now c.args.value _
    (map-set_at_slot (λ p. (p.0.now, p.1)) c.self.inside.items.items c.in-Ok.index
    (c.args.key, c.args.value) there) c.args.self.now c.self.view_is

pub invariant_of-self-in-Continue-1 : goal.invariant_of-self-in-Continue-1
invariant_of-self-in-Continue-1 c =
    let there = rw c.as_slice.ensures.value at c.in-Err.ensures in
    is_sorted-put _ c.self.invariant c.args.key.now c.args.value _
    (map-insert_at_slot (λ p. (p.0.now, p.1)) c.self.inside.items.items c.in-Err.index
    (c.args.key, c.args.value) _ there c.in_ok-insert-in-Err.ensures.items)

pub returns-in_ok-insert-in-Err-clause-after : goal.returns-in_ok-insert-in-Err-clause-after
returns-in_ok-insert-in-Err-clause-after c =
    let there = rw c.as_slice.ensures.value at c.in-Err.ensures in
    from_entries-put _ c.self.invariant c.args.key.now c.args.value _
    (map-insert_at_slot (λ p. (p.0.now, p.1)) c.self.inside.items.items c.in-Err.index
    (c.args.key, c.args.value) _ there c.in_ok-insert-in-Err.ensures.items) c.args.self.now
    c.self.view_is

pub returns-then-len-ge-LINEAR_LIMIT-clause-room : goal.returns-then-len-ge-LINEAR_LIMIT-clause-room
returns-then-len-ge-LINEAR_LIMIT-clause-room c =
    λ full. omega (
      arith,
      len-shown (λ p. (p.0.now, p.1)) c.self.inside.items.items c.args.self.now
          c.self.invariant c.self.view_is,
    )
