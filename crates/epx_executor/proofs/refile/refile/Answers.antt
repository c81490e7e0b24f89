use Rattle.epx_executor.proofs.RefileLemmas.{IfSome-refiled_anew, IfSome-refiled_whole}
use Rattle.epx_executor.proofs.refile.refile.Goals as goal
use Rattle.epx_executor.proofs.refile.refile.Goals.{in_default-via-in-Some+in_default}
use Rattle.epx_executor.proofs.refile.refile.Goals.{in_default-via-in_default}

pub returns-in_default : goal.returns-in_default
returns-in_default c =
    IfSome-refiled_whole c.args.before c.args.choice c.args.waiters.now c.file_waiters.result
    (λ b k is is'. elim c.in_default.branch [
      | in_default-via-in-Some+in_default w ↦ cc (is', w.in_default.is-1)
      | in_default-via-in_default w ↦ cc (is, w.in_default.is-0)
    ]) (IfSome-refiled_anew c.new.result c.file_waiters.result c.args.waiters.now c.new.ensures
    c.file_waiters.ensures.filed c.file_waiters.ensures.within)
