use Rattle.std.proofs.Common.{ℕ, ◌+◌, ◌<◌, List, Contains, sym, subst}
use Rattle.epx_audit.specs.declared.doubtful_touches.DoubtfulTouch.{DoubtfulTouch}
use Rattle.epx_audit.specs.inner.DoubtfulKeys.{AreInRange}
use Rattle.epx_audit.proofs.DoubtfulTouchLemmas.{writes_the_only_key, writes_the_only_key-push}
use Rattle.epx_audit.proofs.DoubtfulTouchLemmas.{AreInRange-push}
use Rattle.epx_audit.proofs.doubtful_touches.all_doubtful.Goals as goal

pub loop-node-preserved : goal.loop-node-preserved
loop-node-preserved c =
    let old = c.loop-node.touches.items in
    let n = c.loop-node.node in
    let new = c.in_ok-push.ensures.items in
    let All : List DoubtfulTouch → Type 0 = λ ts. (k : ℕ) → k < n + 1
    → Contains ts (writes_the_only_key k) in
    record {
      in_range = subst (AreInRange (n + 1) 1) (sym new)
          (AreInRange-push old n c.loop-node.invariant.in_range);
      whole = subst All (sym new) (writes_the_only_key-push old n c.loop-node.invariant.whole);
    }
