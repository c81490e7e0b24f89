use Rattle.std.proofs.Common.{refl}
use Rattle.epx_executor.proofs.CommitLemmas.{AllWait-after}
use Rattle.epx_executor.proofs.laws.commit_leaves_none_ready.Goals as goal

pub returns : goal.returns
returns c = λ came before after replies commit.
    AllWait-after before.done after.done commit.other
    commit.order after commit.merged.committed.rising commit.ordered commit.done refl
    commit.pending
