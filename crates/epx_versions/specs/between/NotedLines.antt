-- Lines that are noted.
use Rattle.std.specs.Prelude.{◌≡◌, [], List, Result, Vec}
use Rattle.std.specs.declared.alloc.Global.{Global}
use Rattle.epx_types.specs.declared.fault.Why.{Why}
use Rattle.epx_lines.specs.declared.Line.{Line}
use Rattle.epx_merge.specs.LogLines.{MeaningAt, bad_lines_among, placed_among}
use Rattle.epx_versions.specs.declared.read_line.ReadLine.{ReadLine}
use Rattle.epx_versions.specs.declared.version_notes.VersionNotes.{VersionNotes}
use Rattle.epx_versions.specs.between.KnownLines.{AreKnown}
use Rattle.epx_versions.specs.LineVersions.{versions_of}
use Rattle.epx_versions.specs.between.NotedRows.{AreNoted}
use Rattle.epx_versions.specs.between.VersionLists.{AreHashed}

-- `n` has the versions, rows and bad lines of all `lines` (`AreNoted`) and the hashes of the
-- versions; `n.numbers` has the version of each line of the cache; `pieces` is empty: none is left
-- to note
pub record AreNotedLines (lines : List MeaningAt) (n : VersionNotes)
    (cache : List (Result Line Why)) (pieces : List (Vec ReadLine Global)) : Type 0 where
  pub none : pieces ≡ []
  pub rows : AreNoted (placed_among lines) (bad_lines_among lines) n.noted
  pub texts : AreKnown (versions_of (placed_among lines)) cache n.numbers.items
  pub hashed : AreHashed n.seed n.noted.versions
