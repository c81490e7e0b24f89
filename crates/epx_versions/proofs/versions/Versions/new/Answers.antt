use Rattle.std.proofs.Common.{ap}
use Rattle.epx_versions.proofs.HashedVersionLemmas.{hashes_of, instances_of}
use Rattle.epx_versions.proofs.versions.Versions.new.Goals as goal

pub returns-clause-keys : goal.returns-clause-keys
returns-clause-keys c = ap instances_of c.new.ensures.empty

pub returns-clause-hashes : goal.returns-clause-hashes
returns-clause-hashes c = ap hashes_of c.new.ensures.empty
