-- Lines that commit the same instances are few alike, and commit the same map.
use Rattle.std.proofs.Common.{List, Contains, ap, ◌∙◌, subst}
use Rattle.epx_types.proofs.Common.{Instance, IsCommittedBy-Agree, Placed}
use Rattle.epx_types.specs.CommittedMap.{IsCommittedBy}
use Rattle.epx_types.specs.declared.id.Id.{Id}
use Rattle.epx_committed.specs.InstanceCounts.{AreNamedBy, FewInstances, ManyInstances}
use Rattle.epx_committed.specs.MergedLines.{IsMerged}
use Rattle.epx_laws.specs.AgreementLaws.{HaveInstancesOf}

module _ (lines others : List Placed) (there : HaveInstancesOf others lines)
    (back : HaveInstancesOf lines others) where
  named_alike : (ids : List Id) → AreNamedBy lines ids → AreNamedBy others ids
  named_alike ids named = record {
    rising = named.rising;
    whole = λ r h. let p = back r h in
        subst (Contains ids) (ap (λ (e : Instance). e.id) p.2) (named.whole p.0 p.1);
    named = λ x h. let p = named.named x h in let r = there p.0 p.1 in
        (r.0, r.1, ap (λ (e : Instance). e.id) r.2 ∙ p.2);
  }

  pub FewInstances-alike : FewInstances lines → FewInstances others
  FewInstances-alike few = (few.0, named_alike few.0 few.1, few.2)

  pub ManyInstances-alike : ManyInstances lines → ManyInstances others
  ManyInstances-alike many = (many.0, named_alike many.0 many.1, many.2)

  committed_alike : (m : List Instance) → IsCommittedBy lines m → IsCommittedBy others m
  committed_alike m committed = record {
    rising = committed.rising;
    given = λ e h. let p = committed.given e h in let r = there p.0 p.1 in (r.0, r.1, r.2 ∙ p.2);
    whole = λ r h. let p = back r h in subst (Contains m) p.2 (committed.whole p.0 p.1);
  }

  pub IsMerged-alike : (m : List Instance) → IsMerged lines m → IsMerged others m
  IsMerged-alike m merged = record {
    small = FewInstances-alike merged.small;
    agree = IsCommittedBy-Agree others m (committed_alike m merged.committed);
    committed = committed_alike m merged.committed;
  }
