use Rattle.std.proofs.Common.{◌≡◌, ◌⊎◌, inl, inr, ◌+◌, ◌<◌, ◌≤◌, List}
use Rattle.std.proofs.Common.{IsTrue, sym, subst, ap, ◌∙◌, arith}
use Rattle.epx_types.proofs.Common.{false≢true}
use Rattle.epx_neighbours.specs.declared.neighbours.Neighbours.{Neighbours}
use Rattle.epx_neighbours.specs.inner.KeyTouches.{key_touch_at}
use Rattle.epx_neighbours.specs.inner.NumberedPairs.{IsMadeBy}
use Rattle.epx_neighbours.proofs.MadeLemmas.{AreMadeUpTo, AreMadeUpTo-none, AreMadeUpTo-push}
use Rattle.epx_neighbours.proofs.MadeLemmas.{AreMadeUpTo-skip}
use Rattle.epx_neighbours.proofs.MadeLemmas.{AreMadeUpTo-at_end}
use Rattle.epx_neighbours.proofs.neighbours.add_neighbours.Goals as goal
use Rattle.epx_neighbours.proofs.neighbours.add_neighbours.Goals.{then-touch, else-touch}
use Rattle.epx_neighbours.proofs.neighbours.add_neighbours.Goals.{then-touch-2, else-touch-2}
use Rattle.epx_neighbours.proofs.neighbours.add_neighbours.Goals.{then-other+then-other-touch+in_ok-push}
use Rattle.epx_neighbours.proofs.neighbours.add_neighbours.Goals.{else-other}
use Rattle.epx_neighbours.proofs.neighbours.add_neighbours.Goals.{else-other-via-then-other+else-other-touch}
use Rattle.epx_neighbours.proofs.neighbours.add_neighbours.Goals.{else-other-via-else-other}

pub loop-earlier-init : goal.loop-earlier-init
loop-earlier-init c =
    AreMadeUpTo-none c.args.touches.now c.args.last_writer c.args.index c.args.found.now.items

pub loop-earlier-preserved : goal.loop-earlier-preserved
loop-earlier-preserved c =
    let touches = c.args.touches.now in
    let first = c.args.last_writer in
    let i = c.args.index in
    let e = c.loop-earlier.earlier in
    let old = c.loop-earlier.found.items in
    let initial = c.args.found.now.items in
    let Up : List Neighbours → Type 0 = AreMadeUpTo touches first i initial (e + 1) in
    let below : e < i = elim c.if-touch.branch [
      | then-touch w ↦ omega (arith, w.end-is, c.loop-earlier-test.true)
      | else-touch w ↦ omega (arith, w.end-is, w.min-end.ensures, c.loop-earlier-test.true)
    ] in
    let from : first ≤ e = omega (arith, c.loop-earlier.auto.earlier) in
    elim c.if-other.branch [
      | then-other+then-other-touch+in_ok-push w ↦
          let one : IsTrue (key_touch_at touches i).writes
          ⊎ ((e ≡ first) × IsTrue (key_touch_at touches e).writes) =
          elim c.if-touch.branch [
            | then-touch v ↦ inl v.if-touch.true
            | else-touch v ↦ elim c.if-touch-2.branch [
              | then-touch-2 u ↦ inl u.if-touch-2.true
              | else-touch-2 u ↦ inr (
                omega (arith, v.end-is, v.min-end.ensures, c.loop-earlier-test.true, from),
                sym u.value-is ∙ w.if-other.true,
              )
            ]
          ] in
          subst Up (sym (ap (λ v. v.items) w.found-is ∙ w.in_ok-push.ensures.items))
          (AreMadeUpTo-push touches first i initial e old from below one w.if-other-touch.true
          c.loop-earlier.invariant)
      | else-other w ↦
          let none : (x : Neighbours) → ¬ IsMadeBy touches first i x e = λ x made.
          elim w.else-other.branch [
            | else-other-via-then-other+else-other-touch v ↦
                omega (arith, v.if-other-touch.false, made.rises)
            | else-other-via-else-other v ↦ elim c.if-touch-2.branch [
              | then-touch-2 u ↦ false≢true
                  (sym v.if-other.false ∙ (u.value-is ∙ u.if-touch-2.true))
              | else-touch-2 u ↦ elim made.one [
                | inl writing ↦ false≢true (sym u.if-touch-2.false ∙ writing)
                | inr wrote ↦ false≢true (sym v.if-other.false ∙ (u.value-is ∙ wrote.1))
              ]
            ]
          ] in
          subst Up (sym (ap (λ v. v.items) w.found-is))
          (AreMadeUpTo-skip touches first i initial e old none c.loop-earlier.invariant)
    ]

pub returns : goal.returns
returns c =
    let touches = c.args.touches.now in
    let first = c.args.last_writer in
    let i = c.args.index in
    let e = c.loop-earlier.earlier in
    AreMadeUpTo-at_end touches first i c.args.found.now.items e c.loop-earlier.found.items
    (λ j x past made. elim c.if-touch.branch [
      | then-touch w ↦ omega (arith, w.end-is, c.loop-earlier-test.false, past, made.below)
      | else-touch w ↦ elim made.one [
        | inl writing ↦ false≢true (sym w.if-touch.false ∙ writing)
        | inr wrote ↦ omega (
          arith,
          w.end-is,
          w.min-end.ensures,
          c.loop-earlier-test.false,
          past,
          made.below,
          wrote.0,
        )
      ]
    ]) c.loop-earlier.invariant
