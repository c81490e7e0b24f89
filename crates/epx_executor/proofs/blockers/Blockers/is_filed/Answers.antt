use Rattle.std.proofs.Common.{◌≡◌, ◌↔◌, ◌∙◌, Option, None, Some, is_some, IsTrue, refl, ap, subst}
use Rattle.epx_types.proofs.Common.{BTreeMap, IsOrdered, get, id_cmp}
use Rattle.epx_types.specs.declared.id.Id.{Id}
use Rattle.epx_executor.specs.inner.Filings.{Filings, IsFiled}
use Rattle.epx_executor.proofs.FilingLemmas.{IsFiled-under, Contains-filed_under}
use Rattle.epx_executor.proofs.FilingMapLemmas.{Contains-from_get, get-from_Contains}
use Rattle.epx_executor.proofs.blockers.Blockers.is_filed.Goals as goal

found : (m : BTreeMap Id Id) → IsOrdered id_cmp m → (x : Id) (o : Option Id)
    → get id_cmp m x ≡ o → IsTrue (is_some o) → IsFiled m.entries x
found m order x None e t = absurd (cc t)
found m order x (Some y) e t = IsFiled-under m.entries x y (Contains-from_get m order x y e)

pub returns : goal.returns
returns c =
    let m = c.self.inside.parents in
    let x = c.args.id in
    subst (λ (f : Filings). IsTrue c.contains_key.result ↔ IsFiled f x) c.self.view_is (
      λ t. found m c.self.invariant.1 x (get id_cmp m x) refl
          (subst IsTrue c.contains_key.ensures t),
      λ h. let r = Contains-filed_under m.entries x h in
          c.contains_key.ensures
          ∙ ap is_some (get-from_Contains m c.self.invariant.1 x r.0 r.1),
    )
