use Rattle.std.proofs.Common.{◌∙◌, List, Contains, subst}
use Rattle.epx_types.proofs.Common.{Instance, Placed, IsCommittedBy}
use Rattle.epx_laws.specs.AgreementLaws.{HaveInstancesOf}
use Rattle.epx_laws.proofs.agreement.same_instances_commit_alike.Goals as goal

commit : (lines other : List Placed) → HaveInstancesOf lines other → HaveInstancesOf other lines
    → (m : List Instance) → IsCommittedBy lines m → IsCommittedBy other m
commit lines other has has' m by = record {
  rising = by.rising;
  given = λ e h.
      let p = by.given e h in
      let q = has' p.0 p.1 in
      (q.0, q.1, q.2 ∙ p.2);
  whole = λ p h. let q = has p h in subst (Contains m) q.2 (by.whole q.0 q.1);
}

pub returns : goal.returns
returns c = λ lines other has has' m.
    (commit lines other has has' m, commit other lines has' has m)
