use Rattle.std.proofs.Common.{◌≡◌, ◌<◌, ◌++◌, ◌∷◌, [], length, sym, subst, ap, ◌∙◌, arith}
use Rattle.epx_audit.specs.inner.PairMarks.{left_at}
use Rattle.epx_audit.proofs.PairMarkLemmas.{AreNextSources, AreNextSources-first}
use Rattle.epx_audit.proofs.PairMarkLemmas.{AreNextSources-push}
use Rattle.epx_audit.proofs.pair_marks.next_sources.Goals as goal
use Rattle.epx_audit.proofs.pair_marks.next_sources.Goals.{then-from-last+else-len-eq-SOURCES+in_ok-push-2}
use Rattle.epx_audit.proofs.pair_marks.next_sources.Goals.{else-from-last}

pub loop-index-init : goal.loop-index-init
loop-index-init c =
    let left = c.args.left.now in
    let from = (left_at left c.args.start).from in
    let new : c.push.new.self.items ≡ [] ++ from ∷ [] =
    c.in_ok-push.ensures.items ∙ ap (λ xs. xs ++ from ∷ []) c.new-sources.ensures.items in
    subst (AreNextSources left c.args.start) (sym new)
    (AreNextSources-first left c.args.start c.requires)

pub loop-index-preserved : goal.loop-index-preserved
loop-index-preserved c =
    let left = c.args.left.now in
    let sources = c.loop-index.sources.items in
    let i = c.loop-index.index in
    elim c.if-from-last.branch [
      | then-from-last+else-len-eq-SOURCES+in_ok-push-2 w ↦
          let few : length sources < 64 =
          omega (arith, w.if-len-eq-SOURCES.false, w.len.ensures, c.loop-index.invariant.few) in
          let new : c.if-from-last.sources.items ≡ sources ++ (left_at left i).from ∷ [] =
          ap (λ v. v.items) w.sources-is ∙ w.in_ok-push-2.ensures.items in
          subst (AreNextSources left c.args.start) (sym new)
          (AreNextSources-push left c.args.start sources i (omega arith) few c.loop-index.invariant)
      | else-from-last w ↦ subst (AreNextSources left c.args.start)
          (sym (ap (λ v. v.items) w.sources-is)) c.loop-index.invariant
    ]
