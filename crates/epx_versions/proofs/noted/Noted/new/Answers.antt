use Rattle.std.proofs.Common.{◌∙◌, map, sym, ap}
use Rattle.epx_versions.specs.between.VersionLists.{hash_by}
use Rattle.epx_versions.proofs.noted.Noted.new.Goals as goal

pub returns-clause-hashed : goal.returns-clause-hashed
returns-clause-hashed c seed =
    c.new.ensures.hashes ∙ sym (ap (map (hash_by seed)) c.new.ensures.keys)
