-- Faults that a run returns after its sources were read, or as reading them returned it.
use Rattle.std.proofs.Common.{◌≡◌, ◌↔◌, ◌+◌, ◌≤◌, ℕ, List, length, drop, Option, Some, None, Result}
use Rattle.std.proofs.Common.{Ok, Err, IsErrOf, refl, sym, ap, ◌∙◌, subst, inl, inr, arith}
use Rattle.epx_types.proofs.Common.{drop_all, OnOk, IfErr, IsErr, Keeps, Instance}
use Rattle.epx_types.specs.declared.fault.Fault.{Fault}
use Rattle.epx_types.specs.declared.fault.Fault.TheVariants.{TooManyLogs, LogTooLong, BadLine}
use Rattle.epx_types.specs.declared.fault.Fault.TheVariants.{TooManyInstances, Disagree, Read}
use Rattle.epx_types.specs.declared.fault.Fault.TheVariants.{Memory, Write}
use Rattle.epx_compare.specs.ComparisonAnswers.{IsComparisonRefusal}
use Rattle.epx_merge.specs.Refusals.{FitLimits, IsRefusal}
use Rattle.epx_devices.specs.Transfers.{IsReadLogFault}
use Rattle.epx_tool.specs.TaskAnswers.{AnswersLogs}
use Rattle.epx_merge.specs.ReadingRefusals.{IsReadingRefusal}
use Rattle.epx_tool.specs.Runs.{IsFaultOfRun}
use Rattle.epx_tool.specs.RunsWithInput.{IsRunFaultWithInput}
use Rattle.epx_merge.specs.SourceEndings.{StopsAt}
use Rattle.epx_merge.proofs.ReturnedFaultLemmas.{IsErrOf-same, IsErrOf-not_ok, StopsAt-not_ok}
use Rattle.epx_merge.proofs.ReturnedFaultLemmas.{IsErrOf-input_not_too_many, StopsAt-input}
use Rattle.epx_names.specs.declared.task.Task.{Task}
use Rattle.epx_names.specs.declared.task.Task.TheVariants.{Compare}
use Rattle.epx_tool.specs.WithInput.{IsShort, IsRefusalWithInput}
use Rattle.epx_tool.proofs.LogsWithInputLemmas.{StopsAt-not_refusal}

-- ---- a fault that is returned again

module _ {T V : Type 0} (fault : Fault) where
  pub IsErrOf-again : (other : Fault) → IsErrOf {T = T} (Err fault) other
      → IsErrOf {T = V} (Err fault) other
  IsErrOf-again other is = ap Err (IsErrOf-same fault other is)

  pub StopsAt-again : (log : ℕ) → StopsAt {T = T} (Err fault) log → StopsAt {T = V} (Err fault) log
  StopsAt-again log (inl is) = inl (ap Err (IsErrOf-same fault (LogTooLong log) is))
  StopsAt-again log (inr is) = inr (ap Err (IsErrOf-same fault (Read log) is))

  pub IsErrOf-again_iff : (other : Fault) (P : Type 0) → IsErrOf {T = T} (Err fault) other ↔ P
      → IsErrOf {T = V} (Err fault) other ↔ P
  IsErrOf-again_iff other P h = (
    λ is. h.0 (ap Err (IsErrOf-same fault other is)),
    λ p. ap Err (IsErrOf-same fault other (h.1 p)),
  )

pub IsErrOf-ok_iff : {T V : Type 0} (x : T) (y : V) (fault other : Fault) (P : Type 0)
    → IsErrOf (Ok x) fault ↔ P → IsErrOf (Ok y) other ↔ P
IsErrOf-ok_iff x y fault other P h = (
  λ is. absurd (IsErrOf-not_ok y other is),
  λ p. absurd (IsErrOf-not_ok x fault (h.1 p)),
)

-- a fault that this result is not, and that the call before it did not return
pub IsErrOf-other_iff : {T V : Type 0} (result : Result T Fault) (x : V) (fault : Fault)
    (P : Type 0)
    → ¬ IsErrOf result fault → IsErrOf (Ok x) fault ↔ P → IsErrOf result fault ↔ P
IsErrOf-other_iff result x fault P other h = (
  λ is. absurd (other is),
  λ p. absurd (IsErrOf-not_ok x fault (h.1 p)),
)

-- ---- results after the sources were read

-- this result is no fault of reading the first n sources
pub record HasRead {T : Type 0} (n : ℕ) (result : Result T Fault) : Type 0 where
  pub not_stopped : (log : ℕ) → StopsAt result log → n ≤ log
  pub not_too_many : ¬ IsErrOf result TooManyLogs

-- the only fault of writing is `Write`
pub HasRead-written : {T : Type 0} (n : ℕ) (result : Result T Fault)
    → IfErr result (λ f. f ≡ Write) → HasRead n result
HasRead-written n (Ok x) only = record {
  not_stopped = λ log stops. absurd (StopsAt-not_ok x log stops);
  not_too_many = λ is. cc is;
}
HasRead-written n (Err fault) only = record {
  not_stopped = λ log stops. elim stops [ inl is ↦ cc (is, only) | inr is ↦ cc (is, only) ];
  not_too_many = λ is. cc (is, only);
}

-- a fault of lines: none of a device, and none of the number or the length of the logs
abbrev pub IsOfLines : Fault → Type 0
IsOfLines Memory = Unit {0}
IsOfLines (BadLine place why) = Unit {0}
IsOfLines TooManyInstances = Unit {0}
IsOfLines (Disagree id first second) = Unit {0}
IsOfLines _ = ⊥

module _ {T : Type 0} (n : ℕ) (fault : Fault) (of_lines : IsOfLines fault) where
  named : (other : Fault) → IsErrOf {T = T} (Err fault) other → IsOfLines other
  named other is = subst IsOfLines (IsErrOf-same fault other is) of_lines

  pub HasRead-of_lines : HasRead {T = T} n (Err fault)
  HasRead-of_lines = record {
    not_stopped = λ log stops. elim stops [
      | inl is ↦ absurd (named (LogTooLong log) is)
      | inr is ↦ absurd (named (Read log) is)
    ];
    not_too_many = λ is. absurd (named TooManyLogs is);
  }

  pub IsErrOf-lines_not_write : ¬ IsErrOf {T = T} (Err fault) Write
  IsErrOf-lines_not_write is = named Write is

module _ {T : Type 0} (n : ℕ) (logs : List (List ℕ)) (fault : Fault)
    (fits : FitLimits logs) where
  -- a refusal of logs and an extra input that fit
  pub HasRead-refused_with_input : (IsBad : List ℕ → ℕ → Type 0) (input : List ℕ) → IsShort input
      → IsRefusalWithInput IsBad input logs fault → HasRead {T = T} n (Err fault)
  HasRead-refused_with_input IsBad input short refused = record {
    not_stopped = λ log stops.
        absurd (StopsAt-not_refusal logs input IsBad fault log fits short refused stops);
    not_too_many = λ is.
        let named = IsErrOf-same fault TooManyLogs is in
        omega (arith, fits.0, subst (IsRefusalWithInput IsBad input logs) named refused);
  }

-- ---- the faults of reading the extra input

module _ {T : Type 0} (n : ℕ) (fault : Fault) (of_input : IsReadLogFault n fault) where
  -- the extra input comes after all logs
  pub HasRead-input : HasRead {T = T} n (Err fault)
  HasRead-input = record {
    not_stopped = λ log stops. omega (arith, StopsAt-input n fault of_input log stops);
    not_too_many = IsErrOf-input_not_too_many n fault of_input;
  }

-- the number of the extra input is the number of logs
pub IsErrOf-read_iff : {T V : Type 0} (fault : Fault) (n m : ℕ) (P : Type 0) → n ≡ m
    → IsErrOf {T = T} (Err fault) (Read n) ↔ P → IsErrOf {T = V} (Err fault) (Read m) ↔ P
IsErrOf-read_iff {T} fault n m P same h =
    IsErrOf-again_iff fault (Read m) P
    (subst (λ k. IsErrOf {T = T} (Err fault) (Read k) ↔ P) same h)

-- both lists end before this position
pub drop-past_end : {S : Type 0} (new old : List S) (log : ℕ) → length new ≡ length old
    → length new ≤ log → drop (log + 1) new ≡ drop (log + 1) old
drop-past_end new old log same at =
    drop_all (log + 1) new (omega (arith, at)) ∙ sym
    (drop_all (log + 1) old (omega (arith, same, at)))

-- ---- the fault of the sink

pub IsErrOf-refusal_not_write : {T : Type 0} (IsBad : List ℕ → ℕ → Type 0) (input : List ℕ)
    (logs : List (List ℕ)) (fault : Fault) → IsRefusalWithInput IsBad input logs fault
    → ¬ IsErrOf {T = T} (Err fault) Write
IsErrOf-refusal_not_write IsBad input logs fault refused is =
    (subst (IsRefusalWithInput IsBad input logs) (IsErrOf-same fault Write is) refused).1

pub IsErrOf-write_iff : {T : Type 0} (result : Result T Fault) (P : Type 0)
    → IfErr result (λ f. f ≡ Write) → IsErr result ↔ P → IsErrOf result Write ↔ P
IsErrOf-write_iff (Ok x) P only h =
    (λ is. absurd (cc is), λ p. let never = h.1 p in absurd (cc never))
IsErrOf-write_iff (Err fault) P only h = (λ is. h.0 refl, λ p. ap Err only)

pub OnOk-always : {T : Type 0} (result : Result T Fault) (P : Type 0) → P → OnOk result P
OnOk-always (Ok x) P p = p
OnOk-always (Err fault) P p = tt

pub Keeps-refl : (known : Option (List ℕ)) → Keeps known known
Keeps-refl None = tt
Keeps-refl (Some bytes) = refl

-- ---- the faults of a run

-- what a run needs of the answer that it writes: the refusals of reading are among its own, and
-- logs that fit are refused for their lines alone
pub record IsLogAnswer (Answer : List (List ℕ) → Result (List ℕ) Fault → Type 0) : Type 0 where
  pub of_reading : (logs : List (List ℕ)) (fault : Fault) → IsReadingRefusal logs fault
      → IsFaultOfRun Answer logs fault
  pub of_lines : (logs : List (List ℕ)) (fault : Fault) → FitLimits logs → Answer logs (Err fault)
      → IsOfLines fault

merge_refusal_of_lines : (logs : List (List ℕ)) (fault : Fault) → FitLimits logs
    → IsRefusal logs fault → IsOfLines fault
merge_refusal_of_lines logs TooManyLogs fits h = omega (arith, fits.0, h)
merge_refusal_of_lines logs (LogTooLong log) fits h = let first = h.1 in
    omega (arith, fits.1 log first.long.0 first.long.1, first.long.2)
merge_refusal_of_lines logs Memory fits h = tt
merge_refusal_of_lines logs (BadLine place why) fits h = tt
merge_refusal_of_lines logs TooManyInstances fits h = tt
merge_refusal_of_lines logs (Disagree id first second) fits h = tt
merge_refusal_of_lines logs fault fits h = absurd h

comparison_refusal_of_lines : (logs : List (List ℕ)) (fault : Fault) → FitLimits logs
    → IsComparisonRefusal logs fault → IsOfLines fault
comparison_refusal_of_lines logs TooManyLogs fits h = omega (arith, fits.0, h)
comparison_refusal_of_lines logs (LogTooLong log) fits h = let first = h.1 in
    omega (arith, fits.1 log first.long.0 first.long.1, first.long.2)
comparison_refusal_of_lines logs Memory fits h = tt
comparison_refusal_of_lines logs TooManyInstances fits h = tt
comparison_refusal_of_lines logs fault fits h = absurd h

reading_refusal : (task : Task) (logs : List (List ℕ)) (fault : Fault)
    → IsReadingRefusal logs fault → IsFaultOfRun (AnswersLogs task) logs fault
reading_refusal Compare logs Memory h = h
reading_refusal Compare logs TooManyLogs h = h
reading_refusal Compare logs (LogTooLong log) h = h
reading_refusal task logs Memory h = h
reading_refusal task logs TooManyLogs h = h
reading_refusal task logs (LogTooLong log) h = h
reading_refusal task logs (Read log) h = h
reading_refusal task logs fault h = absurd h

pub IsLogAnswer-task : (task : Task) → IsLogAnswer (AnswersLogs task)
IsLogAnswer-task Compare = record {
  of_reading = reading_refusal Compare;
  of_lines = comparison_refusal_of_lines;
}
IsLogAnswer-task task = record {
  of_reading = reading_refusal task;
  of_lines = merge_refusal_of_lines;
}

pub IsFaultOfRun-of_lines : (Answer : List (List ℕ) → Result (List ℕ) Fault → Type 0)
    (logs : List (List ℕ)) (fault : Fault) → IsOfLines fault → Answer logs (Err fault)
    → IsFaultOfRun Answer logs fault
IsFaultOfRun-of_lines Answer logs (Read log) of_lines h = absurd of_lines
IsFaultOfRun-of_lines Answer logs Write of_lines h = absurd of_lines
IsFaultOfRun-of_lines Answer logs fault of_lines h = h

pub IsRunFaultWithInput-refusal : (IsBad : List ℕ → ℕ → Type 0)
    (Is : List ℕ → List Instance → List ℕ → Type 0) (input : List ℕ) (logs : List (List ℕ))
    (fault : Fault) → IsRefusalWithInput IsBad input logs fault
    → IsRunFaultWithInput IsBad Is input logs fault
IsRunFaultWithInput-refusal IsBad Is input logs (Read log) h = absurd h.1
IsRunFaultWithInput-refusal IsBad Is input logs Write h = absurd h.1
IsRunFaultWithInput-refusal IsBad Is input logs fault h = h
