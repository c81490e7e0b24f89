use Rattle.std.proofs.Common.{◌≡◌, List, slice_get, Some, subst}
use Rattle.epx_types.proofs.Common.{ranked_ids}
use Rattle.epx_types.specs.declared.id.Id.{Id}
use Rattle.epx_types.specs.declared.reply.Reply.{Reply}
use Rattle.epx_laws.specs.ResumedRunLaws.{run_on}
use Rattle.epx_executor.proofs.CommitLemmas.{CanResume-other, slice_get-zip}
use Rattle.epx_executor.proofs.laws.committed_replies_are_those_of_the_whole.Goals as goal

pub returns : goal.returns
returns c = λ m came before after replies sound has commit covered whole ordered i x r at.
    let parts = slice_get-zip (ranked_ids commit.order)
    (run_on before.done before.store commit.other commit.order).replies i x r
    (subst (λ (l : List (Id × Reply)). slice_get l i ≡ Some (x, r)) commit.replied at) in
    c.resumed_replies_are_those_of_the_whole.ensures m commit.other before.done before.store
    (CanResume-other m came before after replies sound has commit) covered commit.order whole
    commit.ordered ordered x r (i, parts.0, parts.1)
