-- Every list of logs is accepted or refused.
use Rattle.std.proofs.Common.{◌≡◌, ◌≢◌, ◌⊎◌, inl, inr, ℕ, zero, suc, ◌<◌, ◌≤◌, List, [], ◌∷◌}
use Rattle.std.proofs.Common.{length, Some, slice_get, refl, subst, arith}
use Rattle.epx_types.proofs.Common.{cases_lt, Instance, max_logs, max_log_bytes}
use Rattle.epx_types.specs.declared.fault.Fault.{Fault}
use Rattle.epx_types.specs.declared.fault.Fault.TheVariants.{TooManyLogs, LogTooLong, BadLine}
use Rattle.epx_types.specs.declared.fault.Fault.TheVariants.{Memory}
use Rattle.epx_committed.proofs.MergedLinesLemmas.{IsMerged-or_fault}
use Rattle.epx_merge.specs.LogLines.{placed_of, BadLineAt, bad_lines_of}
use Rattle.epx_merge.specs.Refusals.{IsFirstTooLong, NoneTooLong, AreWellFormed, IsRefusal}
use Rattle.epx_merge.specs.Acceptance.{IsAccepted}
use Rattle.epx_merge.proofs.AnswerLemmas.{IsRefusal-from_merge_fault, IsAccepted-from_merged}
use Rattle.epx_merge.proofs.PlaceOrderLemmas.{IsSortedByPlace-placed_of}

-- ---- the least log that is too long

within_limit : (l bytes : List ℕ) → length l ≤ max_log_bytes → Some l ≡ Some bytes
    → length bytes ≤ max_log_bytes
within_limit l bytes fits e = let same : l ≡ bytes = cc e in
    subst (λ (b : List ℕ). length b ≤ max_log_bytes) same fits

none_too_long : (l : List ℕ) (logs : List (List ℕ)) → length l ≤ max_log_bytes → NoneTooLong logs
    → NoneTooLong (l ∷ logs)
none_too_long l logs fits none zero bytes e = within_limit l bytes fits e
none_too_long l logs fits none (suc k) bytes e = none k bytes e

first_later : (l : List ℕ) (logs : List (List ℕ)) (n : ℕ) → length l ≤ max_log_bytes
    → IsFirstTooLong logs n → (k : ℕ) (bytes : List ℕ) → k < suc n
    → slice_get (l ∷ logs) k ≡ Some bytes → length bytes ≤ max_log_bytes
first_later l logs n fits first zero bytes lower e = within_limit l bytes fits e
first_later l logs n fits first (suc k) bytes lower e = first.first k bytes (omega arith) e

pub NoneTooLong-cases : (logs : List (List ℕ)) → NoneTooLong logs
    ⊎ ((log : ℕ) × IsFirstTooLong logs log)
NoneTooLong-cases [] = inl (λ k bytes e. absurd (cc e))
NoneTooLong-cases (l ∷ logs) =
    elim (cases_lt max_log_bytes (length l)) [
      | inl long ↦ inr
          (0, record { long = (l, refl, long); first = λ k bytes lower e. absurd (omega arith) })
      | inr fits ↦ elim (NoneTooLong-cases logs) [
        | inl none ↦ inl (none_too_long l logs fits none)
        | inr later ↦ inr (
          suc later.0,
          record { long = later.1.long; first = first_later l logs later.0 fits later.1 },
        )
      ]
    ]

-- ---- every list of logs has an answer

abbrev Answered : List (List ℕ) → Type 0
Answered logs = ((m : List Instance) × IsAccepted logs m)
    ⊎ ((f : Fault) × (f ≢ Memory) × IsRefusal logs f)

answer_of_whole : (logs : List (List ℕ)) → AreWellFormed logs → Answered logs
answer_of_whole logs whole =
    elim (IsMerged-or_fault (placed_of logs) (IsSortedByPlace-placed_of logs)) [
      | inl m ↦ inl (m.0, IsAccepted-from_merged logs whole m.0 m.1)
      | inr f ↦ inr (f.0, f.1, IsRefusal-from_merge_fault logs whole f.0 f.2)
    ]

answer_of_fitting : (logs : List (List ℕ)) → length logs ≤ max_logs → NoneTooLong logs
    → Answered logs
answer_of_fitting logs few none = by (bad_lines_of logs) refl where
  by : (bad_lines : List BadLineAt) → bad_lines_of logs ≡ bad_lines → Answered logs
  by [] clean = answer_of_whole logs ((few, none), clean)
  by (s ∷ rest) bad = inr (BadLine s.place s.why, (λ same. cc same), ((few, none), (rest, bad)))

-- every list of logs is accepted or refused
pub IsAccepted-or_refused : (logs : List (List ℕ))
    → ((m : List Instance) × IsAccepted logs m) ⊎ ((f : Fault) × (f ≢ Memory) × IsRefusal logs f)
IsAccepted-or_refused logs =
    elim (cases_lt max_logs (length logs)) [
      | inl many ↦ inr (TooManyLogs, (λ same. cc same), many)
      | inr few ↦ elim (NoneTooLong-cases logs) [
        | inl none ↦ answer_of_fitting logs few none
        | inr long ↦ inr (LogTooLong long.0, (λ same. cc same), (few, long.1))
      ]
    ]
