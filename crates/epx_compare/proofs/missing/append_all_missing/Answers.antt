use Rattle.std.proofs.Common.{◌∙◌, ℕ, ◌++◌, List, ap}
use Rattle.epx_types.proofs.Common.{keys_of, on_ok_weaker}
use Rattle.epx_types.specs.declared.id.Id.{Id}
use Rattle.epx_compare.specs.inner.MissingCounts.{AreCounts, missing_count}
use Rattle.epx_compare.proofs.MissingDepLemmas.{AreMissingDeps-entries, flat_map-missing_counts}
use Rattle.epx_compare.proofs.missing.append_all_missing.Goals as goal

pub returns : goal.returns
returns c = on_ok_weaker c.append_counts.result (λ printed lines bad catalogs.
    let es : List (Id × ℕ) = c.sort_unstable_keys.new.self.entries in
    let ids : List Id = c.args.catalog.now.ids in
    let sorts = c.in_ok-sort_unstable_keys.ensures in
    let counts : AreCounts (missing_count lines ids ids) es =
    λ x. sorts.reordered.2 x ∙ c.in_ok-counts.ensures lines bad catalogs x in (
      keys_of es,
      AreMissingDeps-entries lines bad c.args.catalog.now catalogs es counts sorts.unique
          sorts.sorted,
      printed ∙ ap (λ t. c.args.text.now.items ++ t)
          (flat_map-missing_counts lines bad c.args.catalog.now catalogs es counts sorts.unique),
    )) c.append_counts.ensures
