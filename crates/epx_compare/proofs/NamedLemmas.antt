-- The Ids of a catalog are those of its lines.
use Rattle.std.proofs.Common.{◌∙◌, List, ap}
use Rattle.epx_types.proofs.Common.{IsRising, Instance, Placed, Contains-map, Contains-from_map}
use Rattle.epx_types.specs.declared.id.Id.{Id}
use Rattle.epx_committed.specs.InstanceCounts.{AreNamedBy}
use Rattle.epx_merge.specs.LogLines.{BadLineAt}
use Rattle.epx_compare.specs.declared.catalog.Catalog.{Catalog}
use Rattle.epx_versions.specs.LineVersions.{versions_of}
use Rattle.epx_compare.specs.inner.Catalogs.{IsCatalogOf}
use Rattle.epx_compare.proofs.DependencyLemmas.{Contains-from_versions_of, Contains-versions_of}

pub AreNamedBy-catalog : (lines : List Placed) (bad : List BadLineAt) (c : Catalog)
    → IsCatalogOf lines bad c → IsRising c.ids → AreNamedBy lines c.ids
AreNamedBy-catalog lines bad c catalog rising =
    let id_of : Instance → Id = λ e. e.id in
    record {
      rising = rising;
      whole = λ p h. (catalog.named p.instance.id).1
          (Contains-map id_of (versions_of lines) p.instance (Contains-versions_of lines p h));
      named = λ x h.
          let version = Contains-from_map id_of (versions_of lines) x ((catalog.named x).0 h) in
          let line = Contains-from_versions_of lines version.0 version.1 in
          (line.0, line.1, ap id_of line.2 ∙ version.2);
    }
