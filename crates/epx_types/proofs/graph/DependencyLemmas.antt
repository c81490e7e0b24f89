-- An instance depends on the Ids in its list of dependencies.
use Rattle.std.proofs.Common.{◌↔◌, List, Contains, refl, subst}
use Rattle.epx_types.specs.declared.id.Id.{Id}
use Rattle.epx_types.specs.Ids.{IsRising}
use Rattle.epx_types.specs.Instances.{Instance}
use Rattle.epx_types.specs.CommittedMap.{ids_of, IsCommitted}
use Rattle.epx_types.specs.Reaching.{DependsOn}
use Rattle.epx_types.proofs.lists.MembershipLemmas.{Contains-map}
use Rattle.epx_types.proofs.committed.AgreementLemmas.{IsRising-same}

-- an instance of the map is committed
pub IsCommitted-from_Contains : (m : List Instance) (e : Instance) → Contains m e
    → IsCommitted m e.id
IsCommitted-from_Contains m e h = Contains-map (λ (d : Instance). d.id) m e h

-- only committed instances depend on others
pub DependsOn-committed : (m : List Instance) (x y : Id) → DependsOn m x y → IsCommitted m x
DependsOn-committed m x y (e, in_e, is, listed) =
    subst (IsCommitted m) is (IsCommitted-from_Contains m e in_e)

-- an instance depends exactly on the Ids in its list of dependencies
pub DependsOn-listed : (m : List Instance) → IsRising (ids_of m) → (e : Instance) → Contains m e
    → (y : Id) → DependsOn m e.id y ↔ Contains e.deps y
DependsOn-listed m rising e in_e y = (there, λ listed. (e, in_e, refl, listed)) where
  there : DependsOn m e.id y → Contains e.deps y
  there (d, in_d, is, listed) =
      let P : Instance → Type 0 = λ i. Contains i.deps y in
      subst P (IsRising-same m rising d e in_d in_e is) listed
