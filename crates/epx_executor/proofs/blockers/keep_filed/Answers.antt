use Rattle.std.proofs.Common.{rules, ◌≡◌, Some}
use Rattle.epx_types.proofs.Common.{get, id_cmp}
use Rattle.epx_executor.proofs.FilingMapLemmas.{Contains-retained}
use Rattle.epx_executor.proofs.blockers.keep_filed.Goals as goal

pub returns : goal.returns
returns c =
    Contains-retained _ (λ x. get id_cmp c.args.parents.now x ≡ Some c.args.under) _
    (λ x b g k. search rules) _ _ c.retain.ensures.filtered
