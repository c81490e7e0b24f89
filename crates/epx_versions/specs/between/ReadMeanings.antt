-- What lines say that were read beside a cache.
use Rattle.std.specs.Prelude.{◌≡◌, ◌==◌, List, Option, None, Some, Result, Ok, Err, map, slice_get}
use Rattle.std.specs.Prelude.{if◌then◌else◌}
use Rattle.epx_seed.specs.declared.Seed.{Seed}
use Rattle.epx_types.specs.declared.fault.Why.{Why}
use Rattle.epx_lines.specs.declared.Line.{Line}
use Rattle.epx_lines.specs.declared.Line.TheVariants.{Blank, Entry}
use Rattle.epx_merge.specs.LogLines.{MeaningAt}
use Rattle.epx_versions.specs.declared.read_line.ReadLine.{ReadLine}
use Rattle.epx_versions.specs.declared.read_line.ReadLine.TheVariants as read
use Rattle.epx_versions.specs.between.VersionLists.{hash_by}

-- the meaning of a line of which this was read: of a repeat, that of the cached line with its
-- number. None if there is no such line, or if the hash of a fresh version is not that of the seed
abbrev pub meaning_in : Seed → List (Result Line Why) → ReadLine → Option (Result Line Why)
meaning_in seed cache read.Blank = Some (Ok Blank)
meaning_in seed cache (read.Fresh v bytes) =
    if v.hash == hash_by seed v.version then Some (Ok (Entry v.version)) else None
meaning_in seed cache (read.Repeat number) = slice_get cache number
meaning_in seed cache (read.Bad why) = Some (Err why)

-- `reads` has what was read of each of `lines`, in order: by this seed and cache, each has the
-- meaning of its line
abbrev pub AreReadSo : Seed → List (Result Line Why) → List MeaningAt → List ReadLine → Type 0
AreReadSo seed cache lines reads =
    map (meaning_in seed cache) reads ≡ map (λ l. Some l.meaning) lines
