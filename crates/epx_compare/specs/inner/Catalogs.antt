-- Noted lines by instance and by version.
use Rattle.std.specs.Prelude.{◌≡◌, ◌≢◌, ◌↔◌, true, ℕ, List, [], map, length, Contains, Some}
use Rattle.std.specs.Prelude.{slice_get}
use Rattle.epx_types.specs.declared.id.Id.{Id}
use Rattle.epx_types.specs.PlacedLines.{Placed}
use Rattle.epx_merge.specs.LogLines.{BadLineAt}
use Rattle.epx_rows.specs.between.PositionGroups.{AreGroupsOf}
use Rattle.epx_compare.specs.declared.catalog.Catalog.{Catalog}
use Rattle.epx_compare.specs.declared.comparison.Comparison.{Comparison}
use Rattle.epx_compare.specs.Comparisons.{comparison_text, findings_text}
use Rattle.epx_versions.specs.LineVersions.{versions_of}
use Rattle.epx_compare.specs.MissingDeps.{AreMissingDeps}
use Rattle.epx_versions.specs.between.NotedRows.{AreNoted}

-- the Id of each version, in the order of their numbers
abbrev pub version_ids : List Placed → List Id
version_ids lines = map (λ e. e.id) (versions_of lines)

-- the catalog has these lines and these bad ones, by instance and by version
pub record IsCatalogOf (lines : List Placed) (bad : List BadLineAt) (c : Catalog) : Type 0 where
  pub noted : AreNoted lines bad c.noted
  pub named : (x : Id) → Contains c.ids x ↔ Contains (version_ids lines) x
  -- each version has the position of its instance
  pub positions : map (slice_get c.ids) c.positions.items ≡ map Some (version_ids lines)
  -- each instance has its versions
  pub versions : AreGroupsOf c.positions.items c.versions
  pub each_instance : length c.versions ≡ length c.ids
  -- each version has its rows
  pub rows : AreGroupsOf (map (λ r. r.version) c.noted.rows.items) c.lines
  pub each_version : length c.lines ≡ length (versions_of lines)

-- the comparison of lines and bad lines of logs; `ids` are the instances that the lines commit
pub record IsCatalogComparison (logs : ℕ) (lines : List Placed) (bad : List BadLineAt)
    (ids : List Id) (c : Comparison) : Type 0 where
  pub missing : List Id
  pub open_ends : AreMissingDeps lines ids missing
  pub printed : c.text.items ≡ comparison_text logs lines bad ids missing
  pub found : (c.has_findings ≡ true) ↔ (findings_text logs lines bad ids ≢ [])
