use Rattle.std.proofs.Common.{map, sym, subst, arith}
use Rattle.epx_types.proofs.Common.{length-map}
use Rattle.epx_neighbours.specs.contracts.key_touch.KeyTouchPartialEq.TheImpl as touch_eq
use Rattle.epx_neighbours.specs.inner.KeyTouches.{touch_cmp}
use Rattle.epx_neighbours.proofs.TouchLemmas.{AreTouchesUpTo-step, AreTouches-at_end}
use Rattle.epx_neighbours.proofs.TouchLemmas.{AreTouchesUpTo-start}
use Rattle.epx_neighbours.proofs.TouchLemmas.{AreTouchesUpTo, ops-at}
use Rattle.epx_neighbours.proofs.TouchOrderLemmas.{touch_cmp-IsTotalOrder}
use Rattle.epx_neighbours.proofs.TouchOrderLemmas.{touch_cmp-IsAntisymmetric}
use Rattle.epx_neighbours.proofs.TouchOrderLemmas.{touch_eq-by_cmp}
use Rattle.epx_neighbours.proofs.UniqueListLemmas.{AllPairs-kept}
use Rattle.epx_neighbours.proofs.key_touch.find_touches.Goals as goal

pub loop-position-init : goal.loop-position-init
loop-position-init c =
    subst (AreTouchesUpTo (map (λ k. k.now) c.args.keys.now)
    (map (λ c. c.ops.now) c.args.commands.now) 0) (sym c.new-touches.ensures.items)
    (AreTouchesUpTo-start (map (λ k. k.now) c.args.keys.now)
    (map (λ c. c.ops.now) c.args.commands.now))

pub loop-position-preserved : goal.loop-position-preserved
loop-position-preserved c =
    AreTouchesUpTo-step (map (λ k. k.now) c.args.keys.now)
    (map (λ c. c.ops.now) c.args.commands.now)
    c.loop-position.position _ c.loop-position.touches.items c.add_command.new.touches.items
    (ops-at c.args.commands.now c.loop-position.position c.index-commands-position.result
    (omega arith) c.index-commands-position.is) c.in_ok-add_command.ensures
    c.loop-position.invariant

pub returns : goal.returns
returns c =
    let commands = map (λ c. c.ops.now) c.args.commands.now in
    AreTouches-at_end (map (λ k. k.now) c.args.keys.now) commands c.loop-position.position
    c.loop-position.touches.items c.dedup.new.self.items
    (omega (
      arith,
      c.loop-position-test.false,
      c.loop-position.auto.position-end,
      length-map c.args.commands.now (λ c. c.ops.now),
    )) c.loop-position.invariant
    (AllPairs-kept touch_cmp touch_cmp-IsTotalOrder touch_cmp-IsAntisymmetric touch_eq.eq-value.it
    touch_eq-by_cmp c.loop-position.touches.items c.sort_unstable.new.self.items
    c.dedup.new.self.items c.sort_unstable.ensures.permutation c.sort_unstable.ensures.sorted
    c.dedup.ensures.filtered)
