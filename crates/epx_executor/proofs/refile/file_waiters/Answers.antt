use Rattle.std.proofs.Common.{◌≡◌, Contains, sym, ap, subst, arith}
use Rattle.epx_types.proofs.Common.{Reaches, IsCommitted, Waiting}
use Rattle.epx_types.specs.declared.id.Id.{Id}
use Rattle.epx_executor.specs.inner.Filings.{IsFiled}
use Rattle.epx_executor.proofs.RefileLemmas.{IsFiled-waiters_all, IsFiled-waiters_next}
use Rattle.epx_executor.proofs.RefileLemmas.{AreWithin-more}
use Rattle.epx_executor.proofs.refile.file_waiters.Goals as goal

pub loop-waiter-preserved : goal.loop-waiter-preserved
loop-waiter-preserved c =
    let ws = c.args.waiters.now in
    let k = c.loop-waiter.waiter-index in
    let w = c.waiter-item.result in
    let old = c.loop-waiter.blockers in
    let new = c.file_behind.new.blockers in
    let id : c.waiter.inside.id ≡ w.id = ap (λ (v : Waiting). v.id) c.waiter.view_is in
    let missing : c.waiter.inside.missing ≡ w.missing =
    ap (λ (v : Waiting). v.missing) c.waiter.view_is in
    let there : Contains ws w = (k, omega arith, sym c.waiter-item.is) in (
      λ x y h. c.file_behind.ensures.stay x y (c.loop-waiter.invariant.0 x y h),
      IsFiled-waiters_next ws k w old new (omega arith) (sym c.waiter-item.is)
          c.loop-waiter.invariant.1
          c.file_behind.ensures.stay
          (subst (IsFiled new) id (c.file_behind.ensures.filed c.if-not-file_behind.false)),
      λ m within waiting.
          let are = waiting w there in
          AreWithin-more m old new c.waiter.inside.id c.waiter.inside.missing
          (subst (IsCommitted m) (sym id) are.0)
          (subst (λ (x : Id). Reaches m x c.waiter.inside.missing) (sym id)
          (subst (Reaches m w.id) (sym missing) are.1))
          (c.loop-waiter.invariant.2 m within waiting) c.file_behind.ensures.new,
    )

pub returns-clause-filed : goal.returns-clause-filed
returns-clause-filed c =
    IsFiled-waiters_all c.args.waiters.now c.loop-waiter.waiter-index c.loop-waiter.blockers
    (omega arith)
    c.loop-waiter.invariant.1
