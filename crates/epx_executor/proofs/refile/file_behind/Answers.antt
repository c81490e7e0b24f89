use Rattle.std.proofs.Common.{◌⊎◌, ◌≡◌, sym, ◌∙◌, subst}
use Rattle.epx_types.specs.declared.id.Id.{Id}
use Rattle.epx_executor.specs.inner.Filings.{IsBlockedBy}
use Rattle.epx_executor.proofs.RefileLemmas.{IsFiled-if_ok, Contains-filed_cases}
use Rattle.epx_executor.proofs.RefileLemmas.{Contains-filed_stay}
use Rattle.epx_executor.proofs.RefileLemmas.{IsBlockedBy-last, IsBlockedBy-cases}
use Rattle.epx_executor.proofs.refile.file_behind.Goals as goal

pub returns-clause-filed : goal.returns-clause-filed
returns-clause-filed c = λ is.
    IsFiled-if_ok c.args.blockers.now c.file.new.self c.args.id c.unwrap_or-last.result
    c.file.result c.file.ensures.filed c.file.ensures.unchanged (sym c.is_ok.ensures.value ∙ is)

pub returns-clause-stay : goal.returns-clause-stay
returns-clause-stay c =
    Contains-filed_stay c.args.blockers.now c.file.new.self c.args.id c.unwrap_or-last.result
    c.file.result c.file.ensures.filed c.file.ensures.unchanged

pub returns-clause-new : goal.returns-clause-new
returns-clause-new c = λ x y h.
    let old = c.args.blockers.now in
    IsBlockedBy-cases old c.args.id c.args.reached c.unwrap_or-last.result x y
    (subst (λ (z : Id). (c.args.reached ≡ z) ⊎ IsBlockedBy old c.args.reached z)
    (sym c.unwrap_or-last.ensures) (IsBlockedBy-last old c.args.reached c.blocker.result
    c.blocker.ensures))
    (Contains-filed_cases old c.file.new.self c.args.id c.unwrap_or-last.result
    c.file.result c.file.ensures.filed c.file.ensures.unchanged x y h)
