use Rattle.std.proofs.Common.{◌∙◌, Some, sym, ap, subst}
use Rattle.indexmap.specs.IndexSet.{insert_key}
use Rattle.epx_types.proofs.lists.ListPositionLemmas.{slice_get-map}
use Rattle.epx_versions.specs.declared.hashed_version.HashedVersion.{HashedVersion}
use Rattle.epx_versions.specs.SameInstances.{same_instance}
use Rattle.epx_versions.specs.inner.HashedVersions.{hashed_decide}
use Rattle.epx_versions.specs.between.VersionLists.{AreHashed}
use Rattle.epx_versions.proofs.HashedVersionLemmas.{EachHashed, instances_of}
use Rattle.epx_versions.proofs.HashedVersionLemmas.{hashed-insert_key, instances-insert_key}
use Rattle.epx_versions.proofs.versions.Versions.insert.Goals as goal

pub returns-clause-added : goal.returns-clause-added
returns-clause-added c seed hashed own =
    let ks = c.self.inside.table.keys in
    let v : HashedVersion = c.args.version in
    let before : EachHashed seed ks = subst (AreHashed seed) (sym c.self.view_is) hashed in
    let keys = c.in_ok-number.ensures.keys in (
      subst (EachHashed seed) (sym keys) (hashed-insert_key seed v own ks before),
      ap instances_of keys ∙ (instances-insert_key seed v own ks before
          ∙ ap (λ l. insert_key same_instance l.keys v.version) c.self.view_is),
    )

pub returns-clause-number : goal.returns-clause-number
returns-clause-number c =
    let found = c.in_ok-number.ensures.stored in
    slice_get-map (λ (k : HashedVersion). k.version) c.insert_full.new.self.keys
    c.in_ok-number.number found.0 found.1
    ∙ ap (λ (k : HashedVersion). Some k.version)
    (sym ((hashed_decide c.args.version found.0).0 found.2))
