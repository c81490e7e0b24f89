use Rattle.epx_types.proofs.Common.{InOneComponent-refl, InOneComponent-symm, InOneComponent-trans}
use Rattle.epx_laws.proofs.reaching.one_component_is_equivalence.Goals as goal

pub returns : goal.returns
returns c = record {
  reflexive = InOneComponent-refl;
  symmetric = InOneComponent-symm;
  transitive = InOneComponent-trans;
}
