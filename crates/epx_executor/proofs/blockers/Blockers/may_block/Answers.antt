use Rattle.std.proofs.Common.{◌∙◌, Contains, sym, subst}
use Rattle.epx_executor.specs.inner.Filings.{Filings}
use Rattle.epx_executor.proofs.FilingMapLemmas.{is_some-listed}
use Rattle.epx_executor.proofs.blockers.Blockers.may_block.Goals as goal

pub returns : goal.returns
returns c denied x h =
    let here : Contains c.self.inside.parents.entries (x, c.args.id) =
    subst (λ (f : Filings). Contains f (x, c.args.id)) (sym c.self.view_is) h in
    denied (c.contains_key.ensures
    ∙ is_some-listed c.self.inside.children x c.args.id
    (c.self.invariant.2 x c.args.id here))
