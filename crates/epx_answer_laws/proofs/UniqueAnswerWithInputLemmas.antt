-- Logs and an extra input have at most one answer.
use Rattle.std.proofs.Common.{◌≡◌, ◌≢◌, ◌⊎◌, ◌<◌, ◌≤◌, ◌++◌, ℕ, List, [], ◌∷◌, length, Result, Ok}
use Rattle.std.proofs.Common.{Err, refl, sym, ap, ◌∙◌, subst, inl, inr, arith}
use Rattle.epx_types.proofs.Common.{cases_lt, Instance, max_logs, max_log_bytes}
use Rattle.epx_types.specs.declared.fault.Fault.{Fault}
use Rattle.epx_types.specs.declared.fault.Fault.TheVariants.{TooManyLogs, LogTooLong, BadLine}
use Rattle.epx_types.specs.declared.fault.Fault.TheVariants.{TooManyInstances, Disagree, Read}
use Rattle.epx_types.specs.declared.fault.Fault.TheVariants.{BadBase, Memory, Write}
use Rattle.epx_merge.specs.Refusals.{IsFirstTooLong, IsRefusal}
use Rattle.epx_merge.specs.Acceptance.{IsAccepted}
use Rattle.epx_merge.proofs.UniquenessLemmas.{IsAccepted-is_unique, IsRefusal-of_accepted}
use Rattle.epx_merge.proofs.UniquenessLemmas.{IsRefusal-is_unique, IsFirstTooLong-is_unique}
use Rattle.epx_tool.specs.WithInput.{IsShort, IsRefusalWithInput, AnswersWithInput}
use Rattle.epx_tool.proofs.LogsWithInputLemmas.{IsFirstTooLong-without_input}

module _ (IsBad : List ℕ → ℕ → Type 0) (input : List ℕ) (logs : List (List ℕ)) where
  -- with a short input, a refusal is that of the logs, or a bad line of the input
  abbrev IsShortRefusal : Fault → Type 0
  IsShortRefusal fault = IsRefusal logs fault
      ⊎ ((line : ℕ) × (fault ≡ BadBase line) × ((m : List Instance) × IsAccepted logs m)
      × IsBad input line)

  short_refusal : IsShort input → (fault : Fault) → IsRefusalWithInput IsBad input logs fault
      → IsShortRefusal fault
  short_refusal short Memory h = inl h
  short_refusal short TooManyLogs h = inl h
  short_refusal short (LogTooLong log) h =
      inl (h.0, IsFirstTooLong-without_input logs input log short h.1)
  short_refusal short (BadLine place why) h = inl h.1
  short_refusal short TooManyInstances h = inl h.1
  short_refusal short (Disagree id first second) h = inl h.1
  short_refusal short (Read log) h = inl h.1
  short_refusal short Write h = inl h.1
  short_refusal short (BadBase line) h = inr (line, refl, h.1, h.2)

  -- with an input that is too long, a refusal is too many logs, or the first text that is too long
  abbrev IsLongRefusal : Fault → Type 0
  IsLongRefusal fault = ((fault ≡ TooManyLogs) × (max_logs < length logs))
      ⊎ ((log : ℕ) × (fault ≡ LogTooLong log) × (length logs ≤ max_logs)
      × IsFirstTooLong (logs ++ input ∷ []) log)

  long_refusal : ¬ IsShort input → (fault : Fault) → fault ≢ Memory
      → IsRefusalWithInput IsBad input logs fault → IsLongRefusal fault
  long_refusal long Memory some h = absurd (some refl)
  long_refusal long TooManyLogs some h = inl (refl, h)
  long_refusal long (LogTooLong log) some h = inr (log, refl, h.0, h.1)
  long_refusal long (BadLine place why) some h = absurd (long h.0)
  long_refusal long TooManyInstances some h = absurd (long h.0)
  long_refusal long (Disagree id first second) some h = absurd (long h.0)
  long_refusal long (Read log) some h = absurd (long h.0)
  long_refusal long Write some h = absurd (long h.0)
  long_refusal long (BadBase line) some h = absurd (long h.0)

  module _ (bad_one : (line other : ℕ) → IsBad input line → IsBad input other → line ≡ other) where
    short_unique : (f g : Fault) → f ≢ Memory → g ≢ Memory → IsShortRefusal f → IsShortRefusal g
        → f ≡ g
    short_unique f g nf ng (inl a) (inl b) = IsRefusal-is_unique logs f g nf ng a b
    short_unique f g nf ng (inl a) (inr b) =
        absurd (nf (IsRefusal-of_accepted logs b.2.0 f b.2.1 a))
    short_unique f g nf ng (inr a) (inl b) =
        absurd (ng (IsRefusal-of_accepted logs a.2.0 g a.2.1 b))
    short_unique f g nf ng (inr a) (inr b) = a.1 ∙ ap BadBase (bad_one a.0 b.0 a.3 b.3) ∙ sym b.1

    long_unique : (f g : Fault) → IsLongRefusal f → IsLongRefusal g → f ≡ g
    long_unique f g (inl a) (inl b) = a.0 ∙ sym b.0
    long_unique f g (inl a) (inr b) = absurd (omega (arith, a.1, b.2))
    long_unique f g (inr a) (inl b) = absurd (omega (arith, b.1, a.2))
    long_unique f g (inr a) (inr b) =
        a.1 ∙ ap LogTooLong (IsFirstTooLong-is_unique (logs ++ input ∷ []) a.0 b.0 a.3 b.3)
        ∙ sym b.1

    pub IsRefusalWithInput-is_unique : (f g : Fault) → f ≢ Memory → g ≢ Memory
        → IsRefusalWithInput IsBad input logs f → IsRefusalWithInput IsBad input logs g → f ≡ g
    IsRefusalWithInput-is_unique f g nf ng a b =
        elim (cases_lt max_log_bytes (length input)) [
          | inl l ↦ let long : ¬ IsShort input = λ s. omega (arith, l, s) in
              long_unique f g (long_refusal long f nf a) (long_refusal long g ng b)
          | inr n ↦ let short : IsShort input = omega (arith, n) in
              short_unique f g nf ng (short_refusal short f a) (short_refusal short g b)
        ]

    module _ (Is : List ℕ → List Instance → List ℕ → Type 0)
        (one : (m : List Instance) (text other : List ℕ) → Is input m text → Is input m other
        → text ≡ other)
        (apart : (m : List Instance) (text : List ℕ) (line : ℕ) → Is input m text
        → ¬ IsBad input line) where
      answered_not_refused : (text : List ℕ) (f : Fault) → f ≢ Memory
          → AnswersWithInput IsBad Is input logs (Ok text) → ¬ IsShortRefusal f
      answered_not_refused text f nf p (inl r) = nf (IsRefusal-of_accepted logs p.1.0 f p.1.1 r)
      answered_not_refused text f nf p (inr r) = apart p.1.0 text r.0 p.1.2 r.3

      pub AnswersWithInput-unique : (a b : Result (List ℕ) Fault) → a ≢ Err Memory → b ≢ Err Memory
          → AnswersWithInput IsBad Is input logs a → AnswersWithInput IsBad Is input logs b → a ≡ b
      AnswersWithInput-unique (Ok text) (Ok other) s t p q =
          let same = IsAccepted-is_unique logs p.1.0 q.1.0 p.1.1 q.1.1 in
          ap Ok (one q.1.0 text other (subst (λ (m : List Instance). Is input m text) same p.1.2)
          q.1.2)
      AnswersWithInput-unique (Ok text) (Err g) s t p q = let ng : g ≢ Memory =
          λ e. t (ap Err e) in absurd (answered_not_refused text g ng p (short_refusal p.0 g q))
      AnswersWithInput-unique (Err f) (Ok text) s t p q = let nf : f ≢ Memory =
          λ e. s (ap Err e) in absurd (answered_not_refused text f nf q (short_refusal q.0 f p))
      AnswersWithInput-unique (Err f) (Err g) s t p q =
          ap Err (IsRefusalWithInput-is_unique f g (λ e. s (ap Err e)) (λ e. t (ap Err e)) p q)
