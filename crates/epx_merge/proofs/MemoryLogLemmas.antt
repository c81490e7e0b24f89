-- Logs that are read from memory: no read fails.
use Rattle.std.proofs.Common.{◌≡◌, ◌<◌, ◌≤◌, ℕ, [], List, true, false, Result, Ok, Err, length, inl}
use Rattle.std.proofs.Common.{inr, refl, subst}
use Rattle.std.proofs.lemmas.List.Elements.{length_all_zip}
use Rattle.epx_types.proofs.Common.{slice_get-get_or, max_logs}
use Rattle.epx_types.specs.declared.fault.Fault.{Fault}
use Rattle.epx_types.specs.declared.fault.Fault.TheVariants.{TooManyLogs, LogTooLong, BadLine}
use Rattle.epx_types.specs.declared.fault.Fault.TheVariants.{TooManyInstances, Disagree, Read}
use Rattle.epx_types.specs.declared.fault.Fault.TheVariants.{BadBase, Memory, Write}
use Rattle.epx_devices.specs.MemoryDevices.{memory_source}
use Rattle.epx_merge.specs.ReadingRefusals.{IsReadingRefusal}
use Rattle.epx_merge.specs.Refusals.{IsFirstTooLong, IsRefusal}
use Rattle.epx_merge.specs.between.SourceReadings.{EndsReading, EndsMaking}

-- out of memory, too many logs, or the first log that is too long
abbrev pub IsLimitRefusal : List (List ℕ) → Fault → Type 0
IsLimitRefusal logs Memory = Unit {0}
IsLimitRefusal logs TooManyLogs = max_logs < length logs
IsLimitRefusal logs (LogTooLong log) = (length logs ≤ max_logs) × IsFirstTooLong logs log
IsLimitRefusal logs _ = ⊥

pub IsRefusal-from_limits : (logs : List (List ℕ)) (fault : Fault) → IsLimitRefusal logs fault
    → IsRefusal logs fault
IsRefusal-from_limits logs Memory h = h
IsRefusal-from_limits logs TooManyLogs h = h
IsRefusal-from_limits logs (LogTooLong log) h = h
IsRefusal-from_limits logs (BadLine place why) h = absurd h
IsRefusal-from_limits logs TooManyInstances h = absurd h
IsRefusal-from_limits logs (Disagree id first second) h = absurd h
IsRefusal-from_limits logs (Read log) h = absurd h
IsRefusal-from_limits logs Write h = absurd h
IsRefusal-from_limits logs (BadBase line) h = absurd h

module _ (logs new : List (List ℕ)) where
  -- reading them is refused for the limits alone
  limit_refusal : (fault : Fault) → EndsReading memory_source logs new (Err fault)
      → IsReadingRefusal logs fault → IsLimitRefusal logs fault
  limit_refusal Memory read h = h
  limit_refusal TooManyLogs read h = h
  limit_refusal (LogTooLong log) read h = h
  limit_refusal (BadLine place why) read h = absurd h
  limit_refusal TooManyInstances read h = absurd h
  limit_refusal (Disagree id first second) read h = absurd h
  limit_refusal (Read log) read h =
      let same = length_all_zip _ logs new read.sources.taken in
      let at = slice_get-get_or new log [] (subst (λ n. log < n) same h.1) in
      let failed : false ≡ true = (read.sources.read log _ at).0 refl in absurd (cc failed)
  limit_refusal Write read h = absurd h
  limit_refusal (BadBase line) read h = absurd h

-- what is made of logs in memory, where their refusals for the limits are among those of the whole
pub Made-in_memory : {T : Type 0} (Made : List (List ℕ) → Result T Fault → Type 0)
    (logs new : List (List ℕ))
    → ((fault : Fault) → IsLimitRefusal logs fault → Made logs (Err fault))
    → (result : Result T Fault) → EndsMaking memory_source Made logs new result
    → Made logs result
Made-in_memory Made logs new refuses (Ok made) (given, read, is) =
    subst (λ l. Made l (Ok made)) (read.bytes logs refl) is
Made-in_memory Made logs new refuses (Err fault) (inl read) =
    refuses fault (limit_refusal logs new fault read (read.refusal logs refl))
Made-in_memory Made logs new refuses (Err fault) (inr (given, read, is)) =
    subst (λ l. Made l (Err fault)) (read.bytes logs refl) is
