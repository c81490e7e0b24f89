-- Logs and an extra input have an answer. It is required that the input is bad, or every committed
-- map has a text for it.
use Rattle.std.proofs.Common.{◌≢◌, ◌⊎◌, ◌<◌, ℕ, List, length, Result, Ok, Err, inl, inr, arith}
use Rattle.epx_types.proofs.Common.{cases_lt, IsRising, Instance, ids_of, max_logs, max_log_bytes}
use Rattle.epx_types.specs.declared.fault.Fault.{Fault}
use Rattle.epx_types.specs.declared.fault.Fault.TheVariants.{TooManyLogs, LogTooLong, BadBase}
use Rattle.epx_types.specs.declared.fault.Fault.TheVariants.{Memory}
use Rattle.epx_merge.proofs.ExistenceLemmas.{IsAccepted-or_refused, NoneTooLong-cases}
use Rattle.epx_tool.specs.WithInput.{IsShort, AnswersWithInput}
use Rattle.epx_tool.proofs.LogsWithInputLemmas.{IsFirstTooLong-input, IsFirstTooLong-with_input}
use Rattle.epx_tool.proofs.LogsWithInputLemmas.{IsRefusalWithInput-of_logs}

module _ (IsBad : List ℕ → ℕ → Type 0) (Is : List ℕ → List Instance → List ℕ → Type 0)
    (input : List ℕ)
    (text_of_map : ((m : List Instance) → IsRising (ids_of m) → (text : List ℕ) × Is input m text)
    ⊎ ((line : ℕ) × IsBad input line)) (logs : List (List ℕ)) where
  refusal_if_long : max_log_bytes < length input
      → (a : Result (List ℕ) Fault) × (a ≢ Err Memory) × AnswersWithInput IsBad Is input logs a
  refusal_if_long long =
      elim (cases_lt max_logs (length logs)) [
        | inl many ↦ (Err TooManyLogs, (λ same. cc same), many)
        | inr few ↦ elim (NoneTooLong-cases logs) [
          | inl none ↦ (
            Err (LogTooLong (length logs)),
            (λ same. cc same),
            (omega (arith, few), IsFirstTooLong-input logs input none long),
          )
          | inr first ↦ (
            Err (LogTooLong first.0),
            (λ same. cc same),
            (omega (arith, few), IsFirstTooLong-with_input logs input first.0 first.1),
          )
        ]
      ]

  answer_if_short : IsShort input → (a : Result (List ℕ) Fault) × (a ≢ Err Memory)
      × AnswersWithInput IsBad Is input logs a
  answer_if_short short =
      elim (IsAccepted-or_refused logs) [
        | inl accepted ↦ elim text_of_map [
          | inl each ↦ let text = each accepted.0 accepted.1.committed.rising in
              (Ok text.0, (λ same. cc same), (short, (accepted.0, accepted.1, text.1)))
          | inr bad ↦ (
            Err (BadBase bad.0),
            (λ same. cc same),
            (short, (accepted.0, accepted.1), bad.1),
          )
        ]
        | inr refused ↦ (
          Err refused.0,
          (λ same. refused.1 (cc same)),
          IsRefusalWithInput-of_logs logs input IsBad refused.0 short refused.2,
        )
      ]

  pub AnswersWithInput-exists : (a : Result (List ℕ) Fault) × (a ≢ Err Memory)
      × AnswersWithInput IsBad Is input logs a
  AnswersWithInput-exists =
      elim (cases_lt max_log_bytes (length input)) [
        | inl long ↦ refusal_if_long long
        | inr short ↦ answer_if_short (omega (arith, short))
      ]
