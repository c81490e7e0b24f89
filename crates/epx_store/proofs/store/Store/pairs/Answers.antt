use Rattle.std.proofs.Common.{ap, ◌∙◌}
use Rattle.epx_types.proofs.Common.{IfOk-weaker}
use Rattle.std.specs.FinMap as contents
use Rattle.epx_store.proofs.UniqueKeyLemmas.{entries-placed}
use Rattle.epx_store.proofs.store.Store.pairs.Goals as goal

pub returns : goal.returns
returns c =
    IfOk-weaker c.sorted_by_key.result _ _ (λ v ordered.
    ordered c.self.inside.shards c.self.invariant
    (entries-placed (λ p. p.0.now) (λ p. p.1) (λ l. l.items) c.in_ok-lists.lists
    c.self.inside.shards _ c.in_ok-lists.ensures c.in_ok-pairs.ensures.all)
    ∙ ap contents.entries c.self.view_is) c.sorted_by_key.ensures
