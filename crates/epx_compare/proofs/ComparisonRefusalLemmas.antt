-- Why logs that are read are not compared.
use Rattle.std.proofs.Common.{◌≡◌, ℕ, List, []}
use Rattle.epx_types.specs.declared.fault.Fault.{Fault}
use Rattle.epx_types.specs.declared.fault.Fault.TheVariants.{TooManyLogs, LogTooLong, BadLine}
use Rattle.epx_types.specs.declared.fault.Fault.TheVariants.{TooManyInstances, Disagree, Read}
use Rattle.epx_types.specs.declared.fault.Fault.TheVariants.{BadBase, Memory, Write}
use Rattle.epx_merge.specs.between.ReadFaults.{IsReadFault}
use Rattle.epx_merge.proofs.MemoryLogLemmas.{IsLimitRefusal}
use Rattle.epx_compare.specs.ComparisonAnswers.{IsComparisonRefusal}

-- no bad line is refused, so reading lines can only run out of memory
pub IsComparisonRefusal-read_fault : (logs : List (List ℕ)) (fault : Fault) → IsReadFault [] fault
    → IsComparisonRefusal logs fault
IsComparisonRefusal-read_fault logs Memory h = h
IsComparisonRefusal-read_fault logs TooManyLogs h = absurd h
IsComparisonRefusal-read_fault logs (LogTooLong log) h = absurd h
IsComparisonRefusal-read_fault logs (BadLine place why) h = absurd (cc (h.1))
IsComparisonRefusal-read_fault logs TooManyInstances h = absurd h
IsComparisonRefusal-read_fault logs (Disagree id first second) h = absurd h
IsComparisonRefusal-read_fault logs (Read log) h = absurd h
IsComparisonRefusal-read_fault logs Write h = absurd h
IsComparisonRefusal-read_fault logs (BadBase line) h = absurd h

pub IsComparisonRefusal-limits : (logs : List (List ℕ)) (fault : Fault) → IsLimitRefusal logs fault
    → IsComparisonRefusal logs fault
IsComparisonRefusal-limits logs Memory h = h
IsComparisonRefusal-limits logs TooManyLogs h = h
IsComparisonRefusal-limits logs (LogTooLong log) h = h
IsComparisonRefusal-limits logs (BadLine place why) h = absurd h
IsComparisonRefusal-limits logs TooManyInstances h = absurd h
IsComparisonRefusal-limits logs (Disagree id first second) h = absurd h
IsComparisonRefusal-limits logs (Read log) h = absurd h
IsComparisonRefusal-limits logs Write h = absurd h
IsComparisonRefusal-limits logs (BadBase line) h = absurd h
