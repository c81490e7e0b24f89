-- The result of a ledger of all lines is the answer to the logs, and so is a fault that stops the
-- reading.
use Rattle.std.proofs.Common.{List, Result, Ok, Err, MatchResult, ℕ}
use Rattle.epx_types.proofs.Common.{Instance}
use Rattle.epx_types.specs.declared.fault.Fault.{Fault}
use Rattle.epx_types.specs.declared.fault.Fault.TheVariants.{TooManyLogs, LogTooLong, BadLine}
use Rattle.epx_types.specs.declared.fault.Fault.TheVariants.{TooManyInstances, Disagree, Read}
use Rattle.epx_types.specs.declared.fault.Fault.TheVariants.{BadBase, Memory, Write}
use Rattle.epx_merge.specs.LogLines.{placed_of, bad_lines_of}
use Rattle.epx_merge.specs.Refusals.{FitLimits, AreWellFormed, IsRefusal}
use Rattle.epx_merge.specs.Acceptance.{IsAccepted}
use Rattle.epx_committed.specs.MergedLines.{IsMerged, IsMergeFault}
use Rattle.epx_merge.specs.between.ReadFaults.{IsReadFault}

pub IsRefusal-from_merge_fault : (logs : List (List ℕ)) → AreWellFormed logs → (f : Fault)
    → IsMergeFault (placed_of logs) f → IsRefusal logs f
IsRefusal-from_merge_fault logs whole Memory h = h
IsRefusal-from_merge_fault logs whole TooManyLogs h = absurd h
IsRefusal-from_merge_fault logs whole (LogTooLong log) h = absurd h
IsRefusal-from_merge_fault logs whole (BadLine place why) h = absurd h
IsRefusal-from_merge_fault logs whole TooManyInstances h = (whole, h)
IsRefusal-from_merge_fault logs whole (Disagree id first second) h = (whole, h.0, h.1)
IsRefusal-from_merge_fault logs whole (Read log) h = absurd h
IsRefusal-from_merge_fault logs whole Write h = absurd h
IsRefusal-from_merge_fault logs whole (BadBase line) h = absurd h

pub IsAccepted-from_merged : (logs : List (List ℕ)) → AreWellFormed logs → (m : List Instance)
    → IsMerged (placed_of logs) m → IsAccepted logs m
IsAccepted-from_merged logs whole m h =
    record { whole = whole; small = h.small; agree = h.agree; committed = h.committed }

pub MatchResult-accepted : (logs : List (List ℕ)) → AreWellFormed logs
    → (r : Result (List Instance) Fault)
    → MatchResult r (IsMerged (placed_of logs)) (IsMergeFault (placed_of logs))
    → MatchResult r (IsAccepted logs) (IsRefusal logs)
MatchResult-accepted logs whole (Ok m) h = IsAccepted-from_merged logs whole m h
MatchResult-accepted logs whole (Err f) h = IsRefusal-from_merge_fault logs whole f h

-- a fault that stops the reading of logs that fit is their refusal
pub IsRefusal-from_read_fault : (logs : List (List ℕ)) → FitLimits logs → (f : Fault)
    → IsReadFault (bad_lines_of logs) f → IsRefusal logs f
IsRefusal-from_read_fault logs fits Memory h = h
IsRefusal-from_read_fault logs fits TooManyLogs h = absurd h
IsRefusal-from_read_fault logs fits (LogTooLong log) h = absurd h
IsRefusal-from_read_fault logs fits (BadLine place why) h = (fits, h)
IsRefusal-from_read_fault logs fits TooManyInstances h = absurd h
IsRefusal-from_read_fault logs fits (Disagree id first second) h = absurd h
IsRefusal-from_read_fault logs fits (Read log) h = absurd h
IsRefusal-from_read_fault logs fits Write h = absurd h
IsRefusal-from_read_fault logs fits (BadBase line) h = absurd h
