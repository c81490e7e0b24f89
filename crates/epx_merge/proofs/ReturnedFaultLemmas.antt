-- Faults that reading logs returns.
use Rattle.std.proofs.Common.{◌≡◌, ◌↔◌, ◌<◌, ◌≤◌, ℕ, Bool, true, false, Result, Ok, Err, IsErrOf}
use Rattle.std.proofs.Common.{ap, subst, inl, inr, arith}
use Rattle.epx_types.proofs.Common.{max_logs}
use Rattle.epx_types.specs.declared.fault.Fault.{Fault}
use Rattle.epx_types.specs.declared.fault.Fault.TheVariants.{TooManyLogs, LogTooLong, Read, Memory}
use Rattle.epx_types.specs.declared.fault.Fault.TheVariants.{Write}
use Rattle.epx_devices.specs.Transfers.{IsReadLogFault}
use Rattle.epx_merge.specs.SourceEndings.{StopsAt}

fault_in : {T : Type 0} → Result T Fault → Fault
fault_in (Ok x) = Memory
fault_in (Err fault) = fault

pub IsErrOf-same : {T : Type 0} (fault other : Fault) → IsErrOf {T = T} (Err fault) other
    → fault ≡ other
unfolding fault_in
IsErrOf-same fault other is = ap fault_in is

pub IsErrOf-not_ok : {T : Type 0} (x : T) (other : Fault) → ¬ IsErrOf (Ok x) other
IsErrOf-not_ok x other is = cc is

pub StopsAt-not_ok : {T : Type 0} (x : T) (log : ℕ) → ¬ StopsAt (Ok x) log
StopsAt-not_ok x log (inl is) = cc is
StopsAt-not_ok x log (inr is) = cc is

pub IsErrOf-differs : {T : Type 0} (fault other : Fault) → ¬ (fault ≡ other)
    → ¬ IsErrOf {T = T} (Err fault) other
IsErrOf-differs fault other apart is = apart (IsErrOf-same fault other is)

pub StopsAt-not_too_many : {T : Type 0} (log : ℕ) → ¬ StopsAt {T = T} (Err TooManyLogs) log
StopsAt-not_too_many log (inl is) = cc is
StopsAt-not_too_many log (inr is) = cc is

pub StopsAt-not_memory : {T : Type 0} (log : ℕ) → ¬ StopsAt {T = T} (Err Memory) log
StopsAt-not_memory log (inl is) = cc is
StopsAt-not_memory log (inr is) = cc is

-- neither happens
pub iff-not_failed : (P : Type 0) (failed : Bool) → ¬ P → failed ≡ false → P ↔ (failed ≡ true)
iff-not_failed P failed never well = (λ p. absurd (never p), λ bad. absurd (cc (well, bad)))

pub iff-neither : (P Q : Type 0) → ¬ P → ¬ Q → P ↔ Q
iff-neither P Q never nor = (λ p. absurd (never p), λ q. absurd (nor q))

pub max_logs-not_below : (n : ℕ) → n ≤ max_logs → ¬ max_logs < n
max_logs-not_below n few many = omega (arith, few, many)

-- ---- the faults of reading one log

module _ {T : Type 0} (n : ℕ) (fault : Fault) (of_input : IsReadLogFault n fault) where
  also : (other : Fault) → IsErrOf {T = T} (Err fault) other → IsReadLogFault n other
  also other is = subst (IsReadLogFault n) (IsErrOf-same fault other is) of_input

  pub IsErrOf-input_not_write : ¬ IsErrOf {T = T} (Err fault) Write
  IsErrOf-input_not_write is = also Write is

  pub IsErrOf-input_not_too_many : ¬ IsErrOf {T = T} (Err fault) TooManyLogs
  IsErrOf-input_not_too_many is = also TooManyLogs is

  pub StopsAt-input : (log : ℕ) → StopsAt {T = T} (Err fault) log → log ≡ n
  StopsAt-input log (inl is) = also (LogTooLong log) is
  StopsAt-input log (inr is) = also (Read log) is
