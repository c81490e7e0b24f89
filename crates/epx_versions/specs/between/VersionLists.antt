-- Versions by number, with their hashes.
use Rattle.std.specs.Prelude.{◌≡◌, ℕ, List, fold, map}
use Rattle.std.specs.Hash.DefaultHasher as sip
use Rattle.epx_seed.specs.contracts.SeedBuildHasher.TheImpl as seed_hasher
use Rattle.epx_seed.specs.declared.Seed.{Seed}
use Rattle.epx_types.specs.Instances.{Instance}
use Rattle.epx_versions.specs.contracts.version.VersionHash.TheImpl as version_hash

-- instances, and hashes: one for each instance, in the same order, where `AreHashed` holds
pub record VersionList : Type 0 where
  pub keys : List Instance
  pub hashes : List ℕ

-- the hash of an instance, by Rust's `DefaultHasher` begun with this seed
unfoldable pub hash_by : Seed → Instance → ℕ
hash_by seed e = sip.finish
    (fold sip.write (seed_hasher.build_hasher-value.it seed) (version_hash.hash_input-value.it e))

-- the hashes are those of the instances with this seed, in the same order
abbrev pub AreHashed : Seed → VersionList → Type 0
AreHashed seed versions = versions.hashes ≡ map (hash_by seed) versions.keys
