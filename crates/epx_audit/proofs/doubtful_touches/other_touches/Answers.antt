use Rattle.std.proofs.Common.{◌≡◌, ◌+◌, ◌++◌, ◌∷◌, [], not, Contains, sym, subst, ap, ◌∙◌, arith}
use Rattle.epx_audit.specs.declared.touches.KeyUse.{KeyUse}
use Rattle.epx_audit.specs.inner.RelatedTouches.{touch_at}
use Rattle.epx_audit.proofs.DoubtfulTouchLemmas.{AreSome, HoldOthers, touch_at-index}
use Rattle.epx_audit.proofs.DoubtfulTouchLemmas.{AreSome-push, HoldOthers-push, HoldOthers-skip}
use Rattle.epx_audit.proofs.HashLemmas.{Contains-if_found}
use Rattle.epx_audit.proofs.doubtful_touches.other_touches.Goals as goal
use Rattle.epx_audit.proofs.doubtful_touches.other_touches.Goals.{then-is_none+in_ok-push}
use Rattle.epx_audit.proofs.doubtful_touches.other_touches.Goals.{else-is_none}

pub loop-touch-preserved : goal.loop-touch-preserved
loop-touch-preserved c =
    let touches = c.args.touches.now in
    let hashes = c.args.hashes.now in
    let n = c.loop-touch.touch-index in
    let old = c.loop-touch.sure.items in
    elim c.if-is_none.branch [
      | then-is_none+in_ok-push w ↦
          let new : c.if-is_none.sure.items ≡ old ++ touch_at touches n ∷ [] =
          ap (λ v. v.items) w.sure-is ∙ w.in_ok-push.ensures.items in
          record {
            some = subst (AreSome touches) (sym new)
                (AreSome-push touches hashes old n c.loop-touch-test.true
                c.loop-touch.invariant.some);
            all = subst (λ sure. HoldOthers touches hashes sure (n + 1)) (sym new)
                (HoldOthers-push touches hashes old n c.loop-touch.invariant.all);
          }
      | else-is_none w ↦
          let same : c.if-is_none.sure.items ≡ old = ap (λ v. v.items) w.sure-is in
          let there : Contains hashes (touch_at touches n).hash =
          Contains-if_found hashes (touch_at touches n).hash c.doubtful_number.result
          (c.is_none.ensures ∙ ap not w.if-is_none.false) c.doubtful_number.ensures in
          record {
            some = subst (AreSome touches) (sym same) c.loop-touch.invariant.some;
            all = subst (λ sure. HoldOthers touches hashes sure (n + 1)) (sym same)
                (HoldOthers-skip touches hashes old n there c.loop-touch.invariant.all);
          }
    ]

pub returns-clause-all : goal.returns-clause-all
returns-clause-all c t h none =
    let touches = c.args.touches.now in
    let hashes = c.args.hashes.now in
    let sure = c.loop-touch.sure.items in
    let at = touch_at-index touches hashes t h in
    let apart : ¬ Contains hashes (touch_at touches h.0).hash =
    subst (λ (t : KeyUse). ¬ Contains hashes t.hash) (sym at) none in
    subst (λ (t : KeyUse). Contains sure t) at
    (c.loop-touch.invariant.all h.0 (omega (arith, h.1, c.loop-touch-test.false)) apart)
