use Rattle.std.proofs.Common.{◌≡◌, List, Contains, get_or, length, sym, ap, ◌∙◌, subst, arith}
use Rattle.epx_types.proofs.Common.{nat_tests}
use Rattle.epx_types.specs.declared.id.Id.{Id}
use Rattle.epx_graph.specs.inner.Remainder.{RemainderView}
use Rattle.epx_graph.proofs.RemainderLemmas.{remaining_ids-none_done, length-remaining_skip}
use Rattle.epx_graph.proofs.RemainderLemmas.{length-remaining_push}
use Rattle.epx_graph.proofs.remainder.Remainder.count_undone.Goals as goal

pub returns-then-is_empty : goal.returns-then-is_empty
returns-then-is_empty c =
    let none : length c.self.inside.done.now ≡ 0 =
    grind (arith, nat_tests, c.is_empty.ensures, c.if-is_empty.true) in
    rw (sym c.self.view_is)
    (ap length (sym (remaining_ids-none_done c.self.inside.done.now c.args.ids.now none)))

pub loop-id-preserved-then-is_done : goal.loop-id-preserved-then-is_done
loop-id-preserved-then-is_done c =
    let ids = c.args.ids.now in
    let i = c.loop-id.id-index in
    let d : Id = record { replica = 0; number = 0 } in
    let is : c.self.inside.done.now ≡ c.args.self.now.done =
    ap (λ (r : RemainderView). r.done) c.self.view_is in
    let same = length-remaining_skip c.args.self.now.done ids i d c.loop-id-test.true
    (subst (λ (ds : List Id). Contains ds (get_or ids i d)) is
    (c.is_done.ensures.0 c.if-is_done.true)) in
    record {
      count = c.loop-id.invariant.count ∙ sym same;
      within = omega (arith, c.loop-id.invariant.within);
    }

pub loop-id-preserved : goal.loop-id-preserved
loop-id-preserved c =
    let ids = c.args.ids.now in
    let i = c.loop-id.id-index in
    let d : Id = record { replica = 0; number = 0 } in
    let is : c.self.inside.done.now ≡ c.args.self.now.done =
    ap (λ (r : RemainderView). r.done) c.self.view_is in
    let left : ¬ Contains c.args.self.now.done (get_or ids i d) =
    λ h. cc (
      c.is_done.ensures.1
          (subst (λ (ds : List Id). Contains ds (get_or ids i d)) (sym is) h),
      c.if-is_done.false,
    ) in
    let more = length-remaining_push c.args.self.now.done ids i d c.loop-id-test.true left in
    record {
      count = omega (arith, c.loop-id.invariant.count, more);
      within = omega (arith, c.loop-id.invariant.within);
    }
