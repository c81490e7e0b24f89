use Rattle.std.proofs.Common.{◌+◌, List, take, sym, subst, arith}
use Rattle.epx_types.specs.declared.id.Id.{Id}
use Rattle.epx_executor.proofs.RefileLemmas.{AreFiledWithout, AreFiledWithout-all}
use Rattle.epx_executor.proofs.RefileLemmas.{AreFiledWithout-next}
use Rattle.epx_executor.proofs.refile.take_out.Goals as goal

pub loop-id-preserved : goal.loop-id-preserved
loop-id-preserved c =
    let before = c.args.blockers.now in
    let k = c.loop-id.id-index in
    subst (λ (ids : List Id). AreFiledWithout before (take (k + 1) ids) c.remove.new.self)
    c.deref-id-items.ensures.value (AreFiledWithout-next before c.loop-id.blockers
    c.remove.new.self c.deref-id-items.result.now k _ (omega arith)
    (subst (λ (ids : List Id). AreFiledWithout before (take k ids) c.loop-id.blockers)
    (sym c.deref-id-items.ensures.value) c.loop-id.invariant) c.remove.ensures)

pub loop-id-2-init : goal.loop-id-2-init
loop-id-2-init c =
    let before = c.args.blockers.now in
    let k = c.loop-id.id-index in
    subst (λ (ids : List Id). AreFiledWithout before ids c.loop-id.blockers)
    c.deref-id-items.ensures.value (AreFiledWithout-all before c.loop-id.blockers
    c.deref-id-items.result.now k (omega arith)
    (subst (λ (ids : List Id). AreFiledWithout before (take k ids) c.loop-id.blockers)
    (sym c.deref-id-items.ensures.value) c.loop-id.invariant))

pub loop-id-2-preserved : goal.loop-id-2-preserved
loop-id-2-preserved c =
    subst (AreFiledWithout c.args.blockers.now c.args.choice.now.ids.items)
    (sym c.forget_old.ensures) c.loop-id-2.invariant

pub loop-id-3-preserved : goal.loop-id-3-preserved
loop-id-3-preserved c =
    subst (AreFiledWithout c.args.blockers.now c.args.choice.now.ids.items)
    (sym c.forget_old-in-loop-id-3.ensures) c.loop-id-3.invariant
