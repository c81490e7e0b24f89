-- A log that is read part by part.
use Rattle.std.specs.Prelude.{◌≡◌, ◌≤◌, ◌↔◌, ℕ, ◌+◌, Bool, true, false, List, ◌++◌, length}
use Rattle.std.specs.Prelude.{Result, Ok, Err, IfOk, OnOk, IfErr, IfSome, IsErrOf}
use Rattle.std.specs.Io.KnownBytes.{Consumes, IsAtEnd}
use Rattle.epx_types.specs.declared.fault.Fault.{Fault}
use Rattle.epx_types.specs.declared.fault.Fault.TheVariants.{LogTooLong, Read}
use Rattle.epx_types.specs.Limits.{max_log_bytes}
use Rattle.epx_devices.specs.declared.transfer.LogPart.{LogPart}
use Rattle.epx_devices.specs.Deliveries.{Delivers, DeliversAll, IsLogStop}
use Rattle.epx_devices.specs.Models.{SourceModel}
use Rattle.epx_devices.specs.Transfers.{IsReadLogFault, ConsumesUpTo, ConsumesExactly}

-- reads from the state `first` to `now` returned exactly these bytes, at most `max_log_bytes` + 1,
-- and no call has failed
pub record IsReadUpTo {S : Type 0} (D : SourceModel S) (first now : S) (bytes : List ℕ) : Type
    0 where
  pub whole : D.has_failed now ≡ false
  pub consumed : Consumes (D.remaining first) (D.remaining now) bytes
  pub delivered : Delivers D first now bytes
  pub few : length bytes ≤ max_log_bytes + 1

-- how reading the log of this number ends: with all its bytes, at most `max_log_bytes`, or with a
-- fault of `IsReadLogFault`, which is `Read` exactly if a call has failed
pub record EndsLog {S : Type 0} (D : SourceModel S) (log : ℕ) (first now : S)
    (result : Result (List ℕ) Fault) : Type 0 where
  pub bytes : IfOk result (λ b. IfSome (D.remaining first) (λ all. b ≡ all))
  pub delivered : IfOk result (DeliversAll D first now)
  pub ended : OnOk result (IsAtEnd (D.remaining now))
  pub fits : IfOk result (λ b. length b ≤ max_log_bytes)
  pub faults : IfErr result (IsReadLogFault log)
  pub stops : IfErr result (IsLogStop D log first now)
  pub failed : IsErrOf result (Read log) ↔ (D.has_failed now ≡ true)
  pub too_long : IsErrOf result (LogTooLong log)
      → ConsumesExactly (D.remaining first) (D.remaining now) (max_log_bytes + 1)
  pub no_further : ConsumesUpTo (D.remaining first) (D.remaining now) (max_log_bytes + 1)

-- if the last argument is true, the bytes are all of the log, as `EndsLog` says; if it is false,
-- they are its first bytes, at least `least` and at most `max_log_bytes` of them
abbrev pub IsFrontOfLog : {S : Type 0} → SourceModel S → ℕ → S → S → ℕ → List ℕ → Bool → Type 0
IsFrontOfLog D log first now least bytes true = EndsLog D log first now (Ok bytes)
IsFrontOfLog D log first now least bytes false = IsReadUpTo D first now bytes
    × (least ≤ length bytes) × (length bytes ≤ max_log_bytes)

-- after the bytes of `head` a part is read, which has at least `most` bytes or is the last, or
-- reading ends with a fault
abbrev pub EndsPart : {S : Type 0} → SourceModel S → ℕ → S → S → List ℕ → ℕ
    → Result LogPart Fault → Type 0
EndsPart D log first now head most (Ok part) =
    IsFrontOfLog D log first now (length head + most) (head ++ part.bytes.items) part.is_last
EndsPart D log first now head most (Err fault) = EndsLog D log first now (Err fault)
