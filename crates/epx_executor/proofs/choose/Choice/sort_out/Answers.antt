use Rattle.std.proofs.Common.{true≢false, Contains, sym, ap, subst, ◌∙◌, inl, inr}
use Rattle.epx_types.proofs.Common.{is_among, is_among-excludes}
use Rattle.epx_types.specs.declared.id.Id.{Id}
use Rattle.epx_executor.specs.inner.Choices.{NeedsMissing}
use Rattle.epx_executor.proofs.ChoiceLemmas.{Contains-push_cases, Contains-push}
use Rattle.epx_executor.proofs.RemainderLemmas.{Contains-from_among, not-is_false, not-is_true}
use Rattle.epx_executor.proofs.choose.Choice.sort_out.Goals as goal
use Rattle.epx_executor.proofs.choose.Choice.sort_out.Goals.{then-not-is_left-via-then-not-is_left}
use Rattle.epx_executor.proofs.choose.Choice.sort_out.Goals.{then-not-is_left-via-else-not-is_left+then-not-may_block}

pub returns-then-not-is_left-clause-sorted : goal.returns-then-not-is_left-clause-sorted
returns-then-not-is_left-clause-sorted c = λ left.
    let done = c.args.done.now in
    let id = c.id-id.result in
    elim c.then-not-is_left.branch [
      | then-not-is_left-via-then-not-is_left w ↦
          absurd (left (subst (Contains done) c.id-id.ensures (Contains-from_among done id
          (not-is_false c.is_left.result (is_among done id) c.is_left.ensures
          w.if-not-is_left.true))))
      | then-not-is_left-via-else-not-is_left+then-not-may_block w ↦
          inr (inl (λ x h. w.may_block.ensures
          (λ e. true≢false (sym e ∙ w.if-not-may_block.true)) x
          (subst (λ (y : Id). Contains c.args.blockers.now (x, y)) (sym c.id-id.ensures) h)))
    ]

pub returns-in_ok-push-in-Some-clause-only : goal.returns-in_ok-push-in-Some-clause-only
returns-in_ok-push-in-Some-clause-only c = λ x z h.
    let done = c.args.done.now in
    let id = c.id-id.result in
    elim (Contains-push_cases c.args.self.now.blocked.items c.push.new.self.items
    (id, c.in-Some.missing)
    c.in_ok-push-in-Some.ensures.items (x, z) h) [
      | inl old ↦ inl old
      | inr new ↦ inr (
        sym c.id-id.ensures ∙ ap (λ (p : Id × Id). p.0) new,
        subst (λ (y : Id). ¬ Contains done y) (ap (λ (p : Id × Id). p.0) new)
            (is_among-excludes done id
            (not-is_true c.is_left.result (is_among done id) c.is_left.ensures
            c.if-not-is_left.false)),
        subst (NeedsMissing done c.args.pending.now c.args.came.now c.args.blockers.now
            c.args.entry.now) (ap (λ (p : Id × Id). p.1) new) c.in-Some.ensures,
      )
    ]

pub returns-in_ok-push-in-Some-clause-sorted : goal.returns-in_ok-push-in-Some-clause-sorted
returns-in_ok-push-in-Some-clause-sorted c = λ left. inr (inr (
  c.in-Some.missing,
  subst (λ (y : Id). Contains c.push.new.self.items (y, c.in-Some.missing)) c.id-id.ensures
      (Contains-push c.args.self.now.blocked.items c.push.new.self.items
      (c.id-id.result, c.in-Some.missing) c.in_ok-push-in-Some.ensures.items),
))

pub returns-in_ok-push-in-None-clause-sorted : goal.returns-in_ok-push-in-None-clause-sorted
returns-in_ok-push-in-None-clause-sorted c = λ left. inl
    (subst (Contains c.push-in-None.new.self.items) c.id-id.ensures
    (Contains-push c.args.self.now.roots.items c.push-in-None.new.self.items c.id-id.result
    c.in_ok-push-in-None.ensures.items))
