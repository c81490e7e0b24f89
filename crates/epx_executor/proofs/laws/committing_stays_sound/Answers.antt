use Rattle.std.proofs.Common.{sym, subst}
use Rattle.epx_types.proofs.Common.{Contents, IsSound}
use Rattle.epx_executor.proofs.CommitLemmas.{CanResume-other, HasRemaining-pending}
use Rattle.epx_executor.proofs.laws.committing_stays_sound.Goals as goal

pub returns : goal.returns
returns c = λ m came before after replies sound has commit. record {
  rising = sound.rising;
  sound = subst (λ (d : Contents). IsSound m after.done d) (sym commit.store)
      (c.resuming_stays_sound.ensures m commit.other before.done before.store
      (CanResume-other m came before after replies sound has commit) commit.order commit.ordered
      after.done commit.done);
  has = HasRemaining-pending m came before after replies sound has commit;
}
