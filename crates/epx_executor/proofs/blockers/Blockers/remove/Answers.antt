use Rattle.std.proofs.Common.{◌≡◌, ◌↔◌, Contains, subst}
use Rattle.epx_types.specs.declared.id.Id.{Id}
use Rattle.epx_executor.specs.inner.Filings.{Filings}
use Rattle.epx_executor.proofs.FilingLemmas.{AreFilings-left}
use Rattle.epx_executor.proofs.FilingMapLemmas.{Contains-removed}
use Rattle.epx_executor.proofs.blockers.Blockers.remove.Goals as goal

pub invariant_of-self : goal.invariant_of-self
invariant_of-self c =
    let left = Contains-removed c.self.inside.parents c.remove.new.self c.args.id
    c.self.invariant.1 c.remove.ensures.ordered c.remove.ensures.updates in (
      AreFilings-left c.self.inside.parents.entries c.remove.new.self.entries c.args.id left
          c.self.invariant.0,
      c.remove.ensures.ordered,
      λ x y h. c.self.invariant.2 x y ((left x y).0 h).0,
    )

pub returns : goal.returns
returns c =
    let left = Contains-removed c.self.inside.parents c.remove.new.self c.args.id
    c.self.invariant.1 c.remove.ensures.ordered c.remove.ensures.updates in
    subst (λ (f : Filings). (x y : Id) → Contains c.remove.new.self.entries (x, y)
    ↔ (Contains f (x, y) × ¬ (x ≡ c.args.id))) c.self.view_is left
