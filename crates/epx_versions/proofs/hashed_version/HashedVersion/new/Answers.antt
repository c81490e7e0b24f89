use Rattle.std.proofs.Common.{◌∙◌, ap}
use Rattle.epx_versions.specs.between.VersionLists.{hash_by}
use Rattle.epx_versions.proofs.hashed_version.HashedVersion.new.Goals as goal

pub returns-clause-hash : goal.returns-clause-hash
unfolding hash_by
returns-clause-hash c =
    c.hash_one-hash.ensures ∙ ap (hash_by c.args.seed) c.new-version.ensures
