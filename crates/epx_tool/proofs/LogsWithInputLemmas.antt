-- Logs and an extra input: which of these texts is the first too long one, and which refusal comes
-- first.
use Rattle.std.proofs.Common.{◌≡◌, ◌⊎◌, ◌<◌, ◌≤◌, ◌+◌, ◌++◌, ℕ, zero, suc, List, [], ◌∷◌, length}
use Rattle.std.proofs.Common.{Some, Option, Err, IsErrOf, slice_get, refl, sym, ap, ◌∙◌, subst, inl}
use Rattle.std.proofs.Common.{inr, arith}
use Rattle.epx_types.proofs.Common.{slice_get_within, Instance, max_log_bytes}
use Rattle.epx_types.specs.declared.fault.Fault.{Fault}
use Rattle.epx_types.specs.declared.fault.Fault.TheVariants.{TooManyLogs, LogTooLong, BadLine}
use Rattle.epx_types.specs.declared.fault.Fault.TheVariants.{TooManyInstances, Disagree, Read}
use Rattle.epx_types.specs.declared.fault.Fault.TheVariants.{BadBase, Memory, Write}
use Rattle.epx_merge.specs.Refusals.{FitLimits, IsFirstTooLong, NoneTooLong, IsRefusal}
use Rattle.epx_devices.specs.Transfers.{IsReadLogFault, ConsumesExactly}
use Rattle.epx_merge.specs.ReadingRefusals.{NoneTooLongBefore, IsReadingRefusal}
use Rattle.epx_tool.specs.WithInput.{IsShort, IsRefusalWithInput}
use Rattle.epx_tool.specs.RunsWithInput.{IsReadingRefusalWithInput, IsRunFaultWithInput}
use Rattle.epx_merge.specs.SourceEndings.{StopsAt}
use Rattle.epx_merge.proofs.SourceLemmas.{Consumes-length}

-- ---- positions of the texts

log_of_input : (logs : List (List ℕ)) (input bytes : List ℕ) (k : ℕ)
    → slice_get logs k ≡ Some bytes → slice_get (logs ++ input ∷ []) k ≡ Some bytes
log_of_input [] input bytes k there = absurd (cc there)
log_of_input (l ∷ logs) input bytes zero there = there
log_of_input (l ∷ logs) input bytes (suc k) there = log_of_input logs input bytes k there

text_of_input : (logs : List (List ℕ)) (input : List ℕ)
    → slice_get (logs ++ input ∷ []) (length logs) ≡ Some input
text_of_input [] input = refl
text_of_input (l ∷ logs) input = text_of_input logs input

input_cases : (logs : List (List ℕ)) (input bytes : List ℕ) (k : ℕ)
    → slice_get (logs ++ input ∷ []) k ≡ Some bytes
    → (slice_get logs k ≡ Some bytes) ⊎ (k ≡ length logs) × (bytes ≡ input)
input_cases [] input bytes zero there = inr (refl, cc there)
input_cases [] input bytes (suc k) there = absurd (cc there)
input_cases (l ∷ logs) input bytes zero there = inl there
input_cases (l ∷ logs) input bytes (suc k) there =
    elim (input_cases logs input bytes k there)
    [ inl among ↦ inl among | inr last ↦ inr (ap suc last.0, last.1) ]

from_input : (logs : List (List ℕ)) (input bytes : List ℕ) (k : ℕ) → k < length logs
    → slice_get (logs ++ input ∷ []) k ≡ Some bytes → slice_get logs k ≡ Some bytes
from_input logs input bytes k l there =
    elim (input_cases logs input bytes k there)
    [ inl among ↦ among | inr last ↦ absurd (omega (arith, l, last.0)) ]

-- ---- the first text that is too long

module _ (logs : List (List ℕ)) (input : List ℕ) where
  pub IsFirstTooLong-without_input : (log : ℕ) → IsShort input
      → IsFirstTooLong (logs ++ input ∷ []) log
      → IsFirstTooLong logs log
  IsFirstTooLong-without_input log short h =
      elim (input_cases logs input h.long.0 log h.long.1) [
        | inl among ↦ record {
          long = (h.long.0, among, h.long.2);
          first = λ k bytes lower there. h.first k bytes lower
              (log_of_input logs input bytes k there);
        }
        | inr last ↦ absurd (omega (arith, short, h.long.2, ap length last.1))
      ]

  pub IsFirstTooLong-with_input : (log : ℕ) → IsFirstTooLong logs log
      → IsFirstTooLong (logs ++ input ∷ []) log
  IsFirstTooLong-with_input log h = record {
    long = (h.long.0, log_of_input logs input h.long.0 log h.long.1, h.long.2);
    first = λ k bytes lower there. h.first k bytes lower
        (from_input logs input bytes k
        (omega (arith, lower, slice_get_within logs log h.long.0 h.long.1)) there);
  }

  pub IsFirstTooLong-input : NoneTooLong logs → max_log_bytes < length input
      → IsFirstTooLong (logs ++ input ∷ []) (length logs)
  IsFirstTooLong-input none long = record {
    long = (input, text_of_input logs input, long);
    first = λ k bytes lower there. none k bytes (from_input logs input bytes k lower there);
  }

  none_before_input : (log : ℕ) → log ≤ length logs → NoneTooLongBefore logs log
      → NoneTooLongBefore (logs ++ input ∷ []) log
  none_before_input log within h = λ k bytes lower there.
      h k bytes lower (from_input logs input bytes k (omega (arith, lower, within)) there)

  -- ---- refusals

  pub IsReadingRefusalWithInput-of_logs : (fault : Fault) → IsReadingRefusal logs fault
      → IsReadingRefusalWithInput input logs fault
  IsReadingRefusalWithInput-of_logs Memory h = h
  IsReadingRefusalWithInput-of_logs TooManyLogs h = h
  IsReadingRefusalWithInput-of_logs (LogTooLong log) h = (h.0, IsFirstTooLong-with_input log h.1)
  IsReadingRefusalWithInput-of_logs (Read log) h =
      (h.0, omega (arith, h.1), none_before_input log (omega (arith, h.1)) h.2)
  IsReadingRefusalWithInput-of_logs (BadLine place why) h = absurd h
  IsReadingRefusalWithInput-of_logs TooManyInstances h = absurd h
  IsReadingRefusalWithInput-of_logs (Disagree id first second) h = absurd h
  IsReadingRefusalWithInput-of_logs Write h = absurd h
  IsReadingRefusalWithInput-of_logs (BadBase line) h = absurd h

  -- if all logs fit, the extra input may be the one that cannot be read or is too long
  pub IsReadingRefusalWithInput-unread : FitLimits logs
      → IsReadingRefusalWithInput input logs (Read (length logs))
  IsReadingRefusalWithInput-unread fits = (
    fits.0,
    omega arith,
    none_before_input (length logs) (omega arith)
        (λ k bytes lower there. fits.1 k bytes there),
  )

  pub IsReadingRefusalWithInput-long : FitLimits logs → max_log_bytes < length input
      → IsReadingRefusalWithInput input logs (LogTooLong (length logs))
  IsReadingRefusalWithInput-long fits long = (fits.0, IsFirstTooLong-input fits.1 long)

  -- the faults of reading the extra input, after the logs are read
  pub IsReadingRefusalWithInput-at_input : {T : Type 0} (n : ℕ) (later : Option (List ℕ))
      (fault : Fault) → n ≡ length logs → FitLimits logs → IsReadLogFault n fault
      → (IsErrOf {T = T} (Err fault) (LogTooLong n)
      → ConsumesExactly (Some input) later (max_log_bytes + 1))
      → IsReadingRefusalWithInput input logs fault
  IsReadingRefusalWithInput-at_input n later Memory many fits of_text long = tt
  IsReadingRefusalWithInput-at_input n later TooManyLogs many fits of_text long = absurd of_text
  IsReadingRefusalWithInput-at_input n later (LogTooLong log) many fits of_text long =
      let taken = long (ap (λ k. Err (LogTooLong k)) of_text) in
      let P : ℕ → Type 0 = λ k. IsReadingRefusalWithInput input logs (LogTooLong k) in
      subst P (sym (of_text ∙ many))
      (IsReadingRefusalWithInput-long fits
      (omega (arith, Consumes-length later input taken.0 taken.1, taken.2)))
  IsReadingRefusalWithInput-at_input n later (BadLine place why) many fits of_text long =
      absurd of_text
  IsReadingRefusalWithInput-at_input n later TooManyInstances many fits of_text long =
      absurd of_text
  IsReadingRefusalWithInput-at_input n later (Disagree id first second) many fits of_text long =
      absurd of_text
  IsReadingRefusalWithInput-at_input n later (Read log) many fits of_text long =
      let P : ℕ → Type 0 = λ k. IsReadingRefusalWithInput input logs (Read k) in
      subst P (sym (of_text ∙ many)) (IsReadingRefusalWithInput-unread fits)
  IsReadingRefusalWithInput-at_input n later Write many fits of_text long = absurd of_text
  IsReadingRefusalWithInput-at_input n later (BadBase line) many fits of_text long = absurd of_text

  module _ (IsBad : List ℕ → ℕ → Type 0) where
    -- the faults of reading are faults of the run
    pub IsRunFaultWithInput-reading : (Is : List ℕ → List Instance → List ℕ → Type 0)
        (fault : Fault)
        → IsReadingRefusalWithInput input logs fault
        → IsRunFaultWithInput IsBad Is input logs fault
    IsRunFaultWithInput-reading Is Memory h = h
    IsRunFaultWithInput-reading Is TooManyLogs h = h
    IsRunFaultWithInput-reading Is (LogTooLong log) h = h
    IsRunFaultWithInput-reading Is (Read log) h = h
    IsRunFaultWithInput-reading Is fault h = absurd h

    pub IsRefusalWithInput-of_logs : (fault : Fault) → IsShort input → IsRefusal logs fault
        → IsRefusalWithInput IsBad input logs fault
    IsRefusalWithInput-of_logs Memory short h = h
    IsRefusalWithInput-of_logs TooManyLogs short h = h
    IsRefusalWithInput-of_logs (LogTooLong log) short h = (h.0, IsFirstTooLong-with_input log h.1)
    IsRefusalWithInput-of_logs (BadLine place why) short h = (short, h)
    IsRefusalWithInput-of_logs TooManyInstances short h = (short, h)
    IsRefusalWithInput-of_logs (Disagree id first second) short h = (short, h)
    IsRefusalWithInput-of_logs (Read log) short h = (short, h)
    IsRefusalWithInput-of_logs Write short h = (short, h)
    IsRefusalWithInput-of_logs (BadBase line) short h = absurd h

    -- if all texts fit, no refusal stops the reading
    pub StopsAt-not_refusal : {T : Type 0} (fault : Fault) (log : ℕ) → FitLimits logs
        → IsShort input
        → IsRefusalWithInput IsBad input logs fault → ¬ StopsAt {T = T} (Err fault) log
    StopsAt-not_refusal fault log fits short h (inl long) =
        let named : fault ≡ LogTooLong log = cc long in
        let first = IsFirstTooLong-without_input log short
        (subst (IsRefusalWithInput IsBad input logs) named h).1 in
        omega (arith, fits.1 log first.long.0 first.long.1, first.long.2)
    StopsAt-not_refusal fault log fits short h (inr unread) =
        let named : fault ≡ Read log = cc unread in
        (subst (IsRefusalWithInput IsBad input logs) named h).1
