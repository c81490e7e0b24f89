use Rattle.std.proofs.Common.{◌≡◌, ◌∙◌, sym, length, arith}
use Rattle.epx_types.proofs.Common.{length-map}
use Rattle.epx_store.proofs.KeySlotLemmas.{AreLowerBefore-none, AreLowerBefore-step}
use Rattle.epx_store.proofs.KeySlotLemmas.{IsInsertedAt-if_less, IsAtSlot-if_equal}
use Rattle.epx_store.proofs.KeySlotLemmas.{IsInsertedAt-at_end, get_or-shown, map-within}
use Rattle.epx_store.proofs.few_writes.slot_of.Goals as goal

pub loop-index-init : goal.loop-index-init
loop-index-init c = AreLowerBefore-none _ _

pub returns-in-Less : goal.returns-in-Less
returns-in-Less c = IsInsertedAt-if_less _ _ _ c.loop-index.invariant _
    (map-within (λ p. (p.0.now, p.1)) c.args.writes.now _ c.loop-index-test.true)
    (get_or-shown (λ p. (p.0.now, p.1)) c.args.writes.now c.loop-index.index
    c.index-writes-index.result c.index-writes-index.is) c.requires
    (sym c.cmp.ensures ∙ c.in-Less.is)

pub returns-in-Equal : goal.returns-in-Equal
returns-in-Equal c = IsAtSlot-if_equal _ _ _ c.loop-index.invariant _
    (map-within (λ p. (p.0.now, p.1)) c.args.writes.now _ c.loop-index-test.true)
    (get_or-shown (λ p. (p.0.now, p.1)) c.args.writes.now c.loop-index.index
    c.index-writes-index.result c.index-writes-index.is) (sym c.cmp.ensures ∙ c.in-Equal.is)

pub loop-index-preserved : goal.loop-index-preserved
loop-index-preserved c = AreLowerBefore-step _ _ _ c.loop-index.invariant _
    (map-within (λ p. (p.0.now, p.1)) c.args.writes.now _ c.loop-index-test.true)
    (get_or-shown (λ p. (p.0.now, p.1)) c.args.writes.now c.loop-index.index
    c.index-writes-index.result c.index-writes-index.is) (sym c.cmp.ensures ∙ c.in-Greater.is)

pub returns : goal.returns
returns c =
    let last : length c.args.writes.now ≡ c.loop-index.index = omega arith in
    IsInsertedAt-at_end _ _ _ c.loop-index.invariant _ last
    (length-map c.args.writes.now (λ p. (p.0.now, p.1)))
