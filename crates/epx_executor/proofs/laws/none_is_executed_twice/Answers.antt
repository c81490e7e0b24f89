use Rattle.std.proofs.Common.{◌≡◌, List, slice_get, Some, subst}
use Rattle.epx_types.proofs.Common.{ranked_ids, Contains-slice_get}
use Rattle.epx_types.specs.declared.id.Id.{Id}
use Rattle.epx_types.specs.declared.reply.Reply.{Reply}
use Rattle.epx_laws.specs.ResumedRunLaws.{run_on}
use Rattle.epx_executor.proofs.CommitLemmas.{slice_get-zip}
use Rattle.epx_executor.proofs.OrderedLemmas.{Contains-executed_left}
use Rattle.epx_executor.proofs.laws.none_is_executed_twice.Goals as goal

pub returns : goal.returns
returns c = λ came before after replies commit i x r at.
    let ids = ranked_ids commit.order in
    let parts =
    slice_get-zip ids (run_on before.done before.store commit.other commit.order).replies i x r
    (subst (λ (l : List (Id × Reply)). slice_get l i ≡ Some (x, r)) commit.replied at) in
    Contains-executed_left before.done commit.other commit.order commit.ordered x
    (Contains-slice_get ids i x parts.0)
