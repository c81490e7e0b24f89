use Rattle.std.proofs.Common.{List, Result, Vec}
use Rattle.epx_types.proofs.Common.{Global}
use Rattle.epx_types.specs.declared.fault.Why.{Why}
use Rattle.epx_seed.specs.declared.Seed.{Seed}
use Rattle.epx_lines.specs.declared.Line.{Line}
use Rattle.epx_merge.specs.LogLines.{MeaningAt}
use Rattle.epx_versions.specs.declared.read_line.ReadLine.{ReadLine}
use Rattle.epx_versions.specs.inner.BatchNotes.{IsNotedUpTo}
use Rattle.epx_versions.proofs.version_notes.VersionNotes.note_piece.Given as goal

abbrev pub invariant-loop-read : goal.invariant-loop-read
invariant-loop-read l = (seed : Seed) (known : List (Result Line Why)) (lines : List MeaningAt)
    (pieces : List (Vec ReadLine Global))
    → IsNotedUpTo seed known lines l.batch l.fn.start l.fn.piece.items pieces l.fn.self l.fn.cache
    → IsNotedUpTo seed known lines l.batch l.at l.read-iterator.rest.items pieces l.self l.cache
