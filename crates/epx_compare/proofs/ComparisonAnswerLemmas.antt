-- Every list of logs has one answer when it is compared, except for out of memory.
use Rattle.std.proofs.Common.{◌≡◌, ◌≢◌, ℕ, List, length, Result, Ok, Err, inl, inr, refl, ap, arith}
use Rattle.epx_types.proofs.Common.{cases_lt, max_logs}
use Rattle.epx_types.specs.declared.fault.Fault.{Fault}
use Rattle.epx_types.specs.declared.fault.Fault.TheVariants.{TooManyLogs, LogTooLong}
use Rattle.epx_types.specs.declared.fault.Fault.TheVariants.{TooManyInstances, Memory}
use Rattle.epx_committed.proofs.InstanceCountLemmas.{FewInstances-or_many, ManyInstances-not_few}
use Rattle.epx_merge.specs.LogLines.{placed_of}
use Rattle.epx_merge.proofs.ExistenceLemmas.{NoneTooLong-cases}
use Rattle.epx_merge.proofs.UniquenessLemmas.{IsFirstTooLong-is_unique}
use Rattle.epx_compare.specs.ComparisonAnswers.{Compares, IsComparisonOf, IsComparisonRefusal}
use Rattle.epx_compare.proofs.ComparisonExistenceLemmas.{IsComparison-exists}
use Rattle.epx_compare.proofs.ComparisonLawLemmas.{IsComparison-is_unique}

pub Compares-exists : (logs : List (List ℕ)) → (a : Result (List ℕ) Fault) × (a ≢ Err Memory)
    × Compares logs a
Compares-exists logs =
    elim (cases_lt max_logs (length logs)) [
      | inl many ↦ (Err TooManyLogs, (λ same. cc same), many)
      | inr few ↦ elim (NoneTooLong-cases logs) [
        | inr long ↦ (Err (LogTooLong long.0), (λ same. cc same), (few, long.1))
        | inl none ↦ elim (FewInstances-or_many (placed_of logs)) [
          | inr many ↦ (Err TooManyInstances, (λ same. cc same), ((few, none), many))
          | inl small ↦ let text = IsComparison-exists logs in (
            Ok text.0,
            (λ same. cc same),
            record { fit = (few, none); few = small; compared = text.1 },
          )
        ]
      ]
    ]

compared_not_refused : (logs : List (List ℕ)) (text : List ℕ) (f : Fault)
    → IsComparisonOf logs text → IsComparisonRefusal logs f → f ≡ Memory
compared_not_refused logs text Memory c r = refl
compared_not_refused logs text TooManyLogs c r = absurd (omega (arith, r, c.fit.0))
compared_not_refused logs text (LogTooLong log) c r =
    absurd (omega (arith, c.fit.1 log r.1.long.0 r.1.long.1, r.1.long.2))
compared_not_refused logs text TooManyInstances c r =
    absurd (ManyInstances-not_few (placed_of logs) c.few r.1)
compared_not_refused logs text f c r = absurd r

refusal_unique : (logs : List (List ℕ)) (f g : Fault) → f ≢ Memory → g ≢ Memory
    → IsComparisonRefusal logs f → IsComparisonRefusal logs g → f ≡ g
refusal_unique logs Memory g nf ng a b = absurd (nf refl)
refusal_unique logs TooManyLogs Memory nf ng a b = absurd (ng refl)
refusal_unique logs TooManyLogs TooManyLogs nf ng a b = refl
refusal_unique logs TooManyLogs (LogTooLong k) nf ng a b = absurd (omega (arith, a, b.0))
refusal_unique logs TooManyLogs TooManyInstances nf ng a b = absurd (omega (arith, a, b.0.0))
refusal_unique logs TooManyLogs g nf ng a b = absurd b
refusal_unique logs (LogTooLong j) Memory nf ng a b = absurd (ng refl)
refusal_unique logs (LogTooLong j) TooManyLogs nf ng a b = absurd (omega (arith, b, a.0))
refusal_unique logs (LogTooLong j) (LogTooLong k) nf ng a b =
    ap LogTooLong (IsFirstTooLong-is_unique logs j k a.1 b.1)
refusal_unique logs (LogTooLong j) TooManyInstances nf ng a b =
    absurd (omega (arith, b.0.1 j a.1.long.0 a.1.long.1, a.1.long.2))
refusal_unique logs (LogTooLong j) g nf ng a b = absurd b
refusal_unique logs TooManyInstances Memory nf ng a b = absurd (ng refl)
refusal_unique logs TooManyInstances TooManyLogs nf ng a b = absurd (omega (arith, b, a.0.0))
refusal_unique logs TooManyInstances (LogTooLong k) nf ng a b =
    absurd (omega (arith, a.0.1 k b.1.long.0 b.1.long.1, b.1.long.2))
refusal_unique logs TooManyInstances TooManyInstances nf ng a b = refl
refusal_unique logs TooManyInstances g nf ng a b = absurd b
refusal_unique logs f g nf ng a b = absurd a

pub Compares-is_unique : (logs : List (List ℕ)) (a b : Result (List ℕ) Fault) → a ≢ Err Memory
    → b ≢ Err Memory → Compares logs a → Compares logs b → a ≡ b
Compares-is_unique logs (Ok text) (Ok other) s t p q =
    ap Ok (IsComparison-is_unique logs text other p.compared q.compared)
Compares-is_unique logs (Ok text) (Err f) s t p q =
    absurd (t (ap Err (compared_not_refused logs text f p q)))
Compares-is_unique logs (Err f) (Ok text) s t p q =
    absurd (s (ap Err (compared_not_refused logs text f q p)))
Compares-is_unique logs (Err f) (Err g) s t p q =
    ap Err (refusal_unique logs f g (λ e. s (ap Err e)) (λ e. t (ap Err e)) p q)
