-- The fault that stops the reading of lines.
use Rattle.std.specs.Prelude.{Bool, true, false, List, []}
use Rattle.epx_types.specs.declared.fault.Fault.{Fault}
use Rattle.epx_types.specs.declared.fault.Fault.TheVariants.{Memory, TooManyLogs, LogTooLong}
use Rattle.epx_types.specs.declared.fault.Fault.TheVariants.{BadLine, TooManyInstances, Disagree}
use Rattle.epx_types.specs.declared.fault.Fault.TheVariants.{Read, Write, BadBase}
use Rattle.epx_merge.specs.LogLines.{BadLineAt, MeaningAt, bad_lines_among}
use Rattle.epx_merge.specs.Refusals.{IsFirstBadLine}

-- the fault is the first of these bad lines, or out of memory, which says nothing about the lines
abbrev pub IsReadFault : List BadLineAt → Fault → Type 0
IsReadFault lines Memory = Unit {0}
IsReadFault lines (BadLine place why) = IsFirstBadLine lines place why
IsReadFault lines TooManyLogs = ⊥
IsReadFault lines (LogTooLong log) = ⊥
IsReadFault lines TooManyInstances = ⊥
IsReadFault lines (Disagree id first second) = ⊥
IsReadFault lines (Read log) = ⊥
IsReadFault lines Write = ⊥
IsReadFault lines (BadBase line) = ⊥

-- the bad lines that are refused: all of them, or none where bad lines are noted as others are
abbrev pub refused_among : Bool → List MeaningAt → List BadLineAt
refused_among true lines = bad_lines_among lines
refused_among false lines = []
