use Rattle.std.proofs.Common.{[], length, sym, ap, ◌∙◌, subst}
use Rattle.epx_types.proofs.Common.{with_items_is, IfOk-weaker, remaining, IsExecutionOrder}
use Rattle.epx_types.proofs.Common.{remaining-nil, IsExecutionOrder-IsLawful}
use Rattle.epx_graph.proofs.Common.{IsGraphOf}
use Rattle.epx_ranking.proofs.SortedRankLemmas.{IsExecutionOrder-from_sort}
use Rattle.epx_components.specs.Ranks.{ranked_all}
use Rattle.epx_ranking.specs.inner.ReadyRanks.{AreReadyRanks}
use Rattle.epx_ranking.proofs.execution_order.order.Goals as goal

pub returns-clause-order : goal.returns-clause-order
returns-clause-order g c =
    let ranks = c.in_ok-ranks.ranks in
    let sort = c.sort.ensures in
    let sorted = c.sort.new.items in
    let read = c.deref_mut.ensures.value in
    let written = with_items_is ranks sorted (sort.len ∙ (ap length read ∙ sym ranks.ok.0)) in
    IfOk-weaker c.new.result _ _ (λ found at done is.
    let m = remaining done c.args.merged.now in
    let ready = subst (AreReadyRanks m) (sym read) (c.in_ok-ranks.ensures done is) in
    let order = IsExecutionOrder-from_sort m c.deref_mut.result.now sorted ready sort.permutation
    sort.sorted in
    subst (IsExecutionOrder m) (sym (at ∙ ap ranked_all written)) order) c.new.ensures

pub returns-clause-lawful : goal.returns-clause-lawful
returns-clause-lawful g c = IfOk-weaker c.new.result _ _
    (λ found orders done is. IsExecutionOrder-IsLawful (remaining done c.args.merged.now) found
    (orders done is)) (returns-clause-order g c)

pub returns-clause-whole : goal.returns-clause-whole
returns-clause-whole g c =
    let m = c.args.merged.now in
    IfOk-weaker c.new.result _ _
    (λ found orders is. subst (λ left. IsExecutionOrder left found) (remaining-nil m)
    (orders [] (subst (λ left. IsGraphOf left c.args.graph.now) (sym (remaining-nil m)) is)))
    (returns-clause-order g c)

pub returns-clause-whole_lawful : goal.returns-clause-whole_lawful
returns-clause-whole_lawful g c =
    IfOk-weaker c.new.result _ _
    (λ found orders is. IsExecutionOrder-IsLawful c.args.merged.now found (orders is))
    (returns-clause-whole g c)
