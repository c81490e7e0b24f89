use Rattle.std.proofs.Common.{◌∙◌, length, sym, ap}
use Rattle.epx_types.proofs.Common.{length-map, Instance}
use Rattle.epx_versions.specs.declared.hashed_version.HashedVersion.{HashedVersion}
use Rattle.epx_versions.proofs.versions.Versions.len.Goals as goal

pub returns : goal.returns
returns c = c.len.ensures.len
    ∙ (sym (length-map {B = Instance} c.self.inside.table.keys (λ (k : HashedVersion). k.version))
    ∙ ap (λ v. length v.keys) c.self.view_is)
