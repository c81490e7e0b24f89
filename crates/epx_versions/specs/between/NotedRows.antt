-- What is noted of lines: a row for each line that commits an instance, the versions that the rows
-- name, and the bad lines.
use Rattle.std.specs.Prelude.{◌≡◌, List, map, Some, slice_get}
use Rattle.std.specs.List.{AllZip}
use Rattle.epx_types.specs.Instances.{Instance}
use Rattle.epx_types.specs.PlacedLines.{Placed}
use Rattle.epx_merge.specs.LogLines.{BadLineAt}
use Rattle.epx_versions.specs.declared.noted.NotedBadLine.{NotedBadLine}
use Rattle.epx_versions.specs.declared.noted.Noted.{Noted}
use Rattle.epx_versions.specs.declared.noted.NotedLine.{NotedLine}
use Rattle.epx_versions.specs.LineVersions.{versions_of}

-- the row has the place of the line, and the index in `versions` of the instance that it commits
pub record IsRowOf (versions : List Instance) (row : NotedLine) (line : Placed) : Type 0 where
  pub place : row.place ≡ line.place
  pub version : slice_get versions row.version ≡ Some line.instance

-- the place and the fault of a bad line that is noted
abbrev pub bad_line_at : NotedBadLine → BadLineAt
bad_line_at b = record { place = b.place; why = b.why }

-- `noted` has the distinct instances of `lines`, a row for each of these lines, in order, and the
-- bad lines `bad`, in order
pub record AreNoted (lines : List Placed) (bad : List BadLineAt) (noted : Noted) : Type 0 where
  pub versions : noted.versions.keys ≡ versions_of lines
  pub rows : AllZip (IsRowOf (versions_of lines)) noted.rows.items lines
  pub bad_lines : map bad_line_at noted.bad.items ≡ bad
