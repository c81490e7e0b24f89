use Rattle.std.proofs.Common.{◌∙◌, Some, slice_get, sym, ap}
use Rattle.epx_types.proofs.lists.ListPositionLemmas.{slice_get-map}
use Rattle.epx_versions.specs.declared.hashed_version.HashedVersion.{HashedVersion}
use Rattle.epx_versions.proofs.versions.Versions.entry.Goals as goal

pub returns : goal.returns
returns c = ap (λ v. slice_get v.keys c.args.number) (sym c.self.view_is)
    ∙ (slice_get-map (λ (k : HashedVersion). k.version) c.self.inside.table.keys c.args.number
    c.in-Some.hashed.now (sym c.in-Some.ensures.key)
    ∙ ap (λ e. Some e) (sym c.entry.ensures))
