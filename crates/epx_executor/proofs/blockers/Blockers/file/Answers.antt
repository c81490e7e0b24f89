use Rattle.std.proofs.Common.{◌≡◌, ◌↔◌, ◌⊎◌, Contains, sym, subst, inl, inr}
use Rattle.epx_types.specs.declared.id.Id.{Id}
use Rattle.epx_executor.specs.inner.Filings.{Filings, IsFiled, IsListed}
use Rattle.epx_executor.proofs.FilingLemmas.{AreFilings-added}
use Rattle.epx_executor.proofs.FilingMapLemmas.{Contains-inserted}
use Rattle.epx_executor.proofs.blockers.Blockers.file.Goals as goal

filed : (c : goal.In_ok-insert) (x y : Id) → Contains c.insert.new.self.entries (x, y)
    ↔ (Contains c.self.inside.parents.entries (x, y) ⊎ ((x ≡ c.args.id) × (y ≡ c.args.under)))
filed c =
    Contains-inserted c.self.inside.parents c.insert.new.self c.args.id c.self.invariant.1
    c.in_ok-insert.ensures.ordered c.args.under c.in_ok-insert.ensures.updates
    (subst (λ (f : Filings). ¬ IsFiled f c.args.id) (sym c.self.view_is) c.requires.not_filed)

pub invariant_of-self-2 : goal.invariant_of-self-2
invariant_of-self-2 c = (
  AreFilings-added c.self.inside.parents.entries c.insert.new.self.entries c.args.id c.args.under
      (subst (λ (f : Filings). ¬ IsFiled f c.args.id) (sym c.self.view_is) c.requires.not_filed)
      (subst (λ (f : Filings). ¬ IsFiled f c.args.under) (sym c.self.view_is) c.requires.free)
      c.requires.other (filed c) c.self.invariant.0,
  c.in_ok-insert.ensures.ordered,
  λ x y h. elim ((filed c x y).0 h) [
    | inl old ↦ c.in_ok-list_under.ensures.kept x y (c.self.invariant.2 x y old)
    | inr new ↦ subst (λ (z : Id). IsListed c.list_under.new.children z y) (sym new.0)
        (subst (IsListed c.list_under.new.children c.args.id) (sym new.1)
        c.in_ok-list_under.ensures.listed)
  ],
)

pub returns-clause-filed : goal.returns-clause-filed
returns-clause-filed c =
    subst (λ (f : Filings). (x y : Id) → Contains c.insert.new.self.entries (x, y)
    ↔ (Contains f (x, y) ⊎ ((x ≡ c.args.id) × (y ≡ c.args.under)))) c.self.view_is (filed c)
