use Rattle.std.proofs.Common.{List, subst}
use Rattle.epx_types.proofs.Common.{Instance}
use Rattle.epx_types.specs.declared.id.Id.{Id}
use Rattle.epx_executor.specs.inner.Choices.{AreWithin}
use Rattle.epx_executor.proofs.RefileLemmas.{IfSome-refiled}
use Rattle.epx_executor.proofs.refile.refile_some.Goals as goal

pub returns : goal.returns
returns c =
    let kept = c.take_out.new.blockers in
    let blocked = c.file_blocked.new.blockers in
    IfSome-refiled c.args.before kept blocked c.file_waiters.result c.args.choice.now.ids.items
    c.args.choice.now.blocked.items c.args.waiters.now c.take_out.ensures
    c.file_blocked.ensures.stay (subst (λ (pairs : List (Id × Id)). (m : List Instance)
    → AreWithin m pairs → AreWithin m kept → AreWithin m blocked) c.deref.ensures.value
    c.file_blocked.ensures.within) c.file_waiters.ensures.stay c.file_waiters.ensures.filed
    c.file_waiters.ensures.within
