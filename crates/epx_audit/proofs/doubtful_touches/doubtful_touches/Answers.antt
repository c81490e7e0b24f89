use Rattle.std.proofs.Common.{◌≡◌, ◌+◌, ◌++◌, ◌∷◌, [], get_or, Contains, sym, subst, ap, ◌∙◌, arith}
use Rattle.epx_types.proofs.Common.{Contains-get_or}
use Rattle.epx_audit.specs.declared.touches.KeyUse.{KeyUse}
use Rattle.epx_audit.specs.inner.DoubtfulKeys.{doubtful_touch}
use Rattle.epx_audit.specs.inner.RelatedTouches.{touch_at}
use Rattle.epx_audit.proofs.DoubtfulTouchLemmas.{AreFound, HoldFound, touch_at-index, AreFound-push}
use Rattle.epx_audit.proofs.DoubtfulTouchLemmas.{HoldFound-push, HoldFound-skip}
use Rattle.epx_audit.proofs.HashLemmas.{get_or-is_unique}
use Rattle.epx_audit.proofs.doubtful_touches.doubtful_touches.Goals as goal
use Rattle.epx_audit.proofs.doubtful_touches.doubtful_touches.Goals.{in-Some+in_ok-push, in_default}

pub offset_bounds-nodes-touch : goal.offset_bounds-nodes-touch
offset_bounds-nodes-touch c =
    let touches = c.args.touches.now in
    let n = c.loop-touch.touch-index in
    omega (
      arith,
      c.requires.placed (touch_at touches n)
          (Contains-get_or touches n _ c.loop-touch-test.true),
    )

pub bounds-nodes-touch : goal.bounds-nodes-touch
bounds-nodes-touch c = c.requires.placed _
    (Contains-get_or c.args.touches.now c.loop-touch.touch-index _ c.loop-touch-test.true)

pub loop-touch-preserved : goal.loop-touch-preserved
loop-touch-preserved c =
    let touches = c.args.touches.now in
    let hashes = c.args.hashes.now in
    let nodes = c.args.nodes.now in
    let n = c.loop-touch.touch-index in
    let old = c.loop-touch.found.items in
    let placed = c.requires.placed _ (Contains-get_or touches n _ c.loop-touch-test.true) in
    elim c.match-doubtful_number.branch [
      | in-Some+in_ok-push w ↦
          let key = w.in-Some.key in
          let at = w.in-Some.ensures in
          let new : c.match-doubtful_number.found.items
          ≡ old ++ doubtful_touch nodes key (touch_at touches n) ∷ [] =
          ap (λ v. v.items) w.found-is ∙ w.in_ok-push.ensures.items in
          record {
            some = subst (AreFound nodes hashes) (sym new)
                (AreFound-push touches hashes nodes old n key placed at.0
                c.loop-touch.invariant.some);
            all = subst (λ found. HoldFound nodes touches hashes found (n + 1)) (sym new)
                (HoldFound-push touches hashes nodes old n key
                (λ other l is. get_or-is_unique hashes c.requires.hashes key other at.0 l
                (at.1 ∙ sym is))
                c.loop-touch.invariant.all);
          }
      | in_default w ↦
          let same : c.match-doubtful_number.found.items ≡ old = ap (λ v. v.items) w.found-is in
          record {
            some = subst (AreFound nodes hashes) (sym same) c.loop-touch.invariant.some;
            all = subst (λ found. HoldFound nodes touches hashes found (n + 1)) (sym same)
                (HoldFound-skip touches hashes nodes old n w.in_default.ensures
                c.loop-touch.invariant.all);
          }
    ]

pub returns-clause-whole : goal.returns-clause-whole
returns-clause-whole c t key h l is =
    let touches = c.args.touches.now in
    let hashes = c.args.hashes.now in
    let nodes = c.args.nodes.now in
    let at = touch_at-index touches hashes t h in
    let here : get_or hashes key 0 ≡ (touch_at touches h.0).hash =
    is ∙ sym (ap (λ (t : KeyUse). t.hash) at) in
    subst (λ (t : KeyUse). Contains c.loop-touch.found.items (doubtful_touch nodes key t)) at
    (c.loop-touch.invariant.all h.0 key (omega (arith, h.1, c.loop-touch-test.false)) l here)
