-- Logs are never both accepted and refused. They have at most one refusal except out of memory,
-- and commit at most one map.
use Rattle.std.proofs.Common.{◌≡◌, ◌≢◌, ℕ, ◌<◌, List, ◌∷◌, refl, sym, ap, ◌∙◌, arith}
use Rattle.epx_types.proofs.Common.{Instance, Placed, IsCommittedBy-unique}
use Rattle.epx_types.proofs.Common.{IsFirstDisagreement-unique}
use Rattle.epx_types.specs.declared.id.Id.{Id}
use Rattle.epx_types.specs.declared.place.Place.{Place}
use Rattle.epx_types.specs.declared.fault.Fault.{Fault}
use Rattle.epx_types.specs.declared.fault.Fault.TheVariants.{TooManyLogs, LogTooLong, BadLine}
use Rattle.epx_types.specs.declared.fault.Fault.TheVariants.{TooManyInstances, Disagree, Read}
use Rattle.epx_types.specs.declared.fault.Fault.TheVariants.{BadBase, Memory, Write}
use Rattle.epx_types.specs.declared.fault.Why.{Why}
use Rattle.epx_committed.specs.MergedLines.{IsDisagreementAt}
use Rattle.epx_committed.proofs.InstanceCountLemmas.{ManyInstances-not_few}
use Rattle.epx_merge.specs.LogLines.{placed_of, BadLineAt, bad_lines_of}
use Rattle.epx_merge.specs.Refusals.{IsFirstTooLong, NoneTooLong, IsFirstBadLine, IsRefusal}
use Rattle.epx_merge.specs.Acceptance.{IsAccepted}
use Rattle.epx_merge.proofs.PlaceOrderLemmas.{HaveDistinctPlaces-placed_of}

none_and_first_too_long : (logs : List (List ℕ)) (log : ℕ) → NoneTooLong logs
    → ¬ IsFirstTooLong logs log
none_and_first_too_long logs log none first =
    omega (arith, none log first.long.0 first.long.1, first.long.2)

-- accepted logs commit one map
pub IsAccepted-is_unique : (logs : List (List ℕ)) (m n : List Instance) → IsAccepted logs m
    → IsAccepted logs n → m ≡ n
IsAccepted-is_unique logs m n a b =
    IsCommittedBy-unique (placed_of logs) m n a.committed b.committed

-- accepted logs are refused only by out of memory
pub IsRefusal-of_accepted : (logs : List (List ℕ)) (m : List Instance) (f : Fault)
    → IsAccepted logs m → IsRefusal logs f → f ≡ Memory
IsRefusal-of_accepted logs m Memory a r = refl
IsRefusal-of_accepted logs m TooManyLogs a r = absurd (omega (arith, r, a.whole.0.0))
IsRefusal-of_accepted logs m (LogTooLong log) a r =
    absurd (none_and_first_too_long logs log a.whole.0.1 r.1)
IsRefusal-of_accepted logs m (BadLine place why) a r = let none = a.whole.1 in let some = r.1.1 in
    cc
IsRefusal-of_accepted logs m TooManyInstances a r =
    absurd (ManyInstances-not_few (placed_of logs) a.small r.1)
IsRefusal-of_accepted logs m (Disagree id first second) a r = let d = r.2.2 in
    absurd (d.differ.1 (a.agree r.2.0 r.2.1 d.has_first d.has_second d.differ.0))
IsRefusal-of_accepted logs m (Read log) a r = absurd r
IsRefusal-of_accepted logs m Write a r = absurd r
IsRefusal-of_accepted logs m (BadBase line) a r = absurd r

-- ---- one refusal

same_disagreement : (logs : List (List ℕ)) (x y : Id) (p q r s : Place)
    → IsDisagreementAt (placed_of logs) x p q → IsDisagreementAt (placed_of logs) y r s
    → Disagree x p q ≡ Disagree y r s
same_disagreement logs x y p q r s a b =
    let one = IsFirstDisagreement-unique (placed_of logs) (HaveDistinctPlaces-placed_of logs) x y
    a.0 a.1 b.0 b.1
    a.2 b.2 in
    let id : x ≡ y = one.0 in
    let opens : p ≡ r = sym a.3 ∙ ap (λ (l : Placed). l.place) one.1 ∙ b.3 in
    let follows : q ≡ s = sym a.4 ∙ ap (λ (l : Placed). l.place) one.2 ∙ b.4 in
    cc

not_shorter : (logs : List (List ℕ)) (j k : ℕ) → IsFirstTooLong logs j → IsFirstTooLong logs k
    → ¬ j < k
not_shorter logs j k a b lt = omega (arith, b.first j a.long.0 lt a.long.1, a.long.2)

pub IsFirstTooLong-is_unique : (logs : List (List ℕ)) (j k : ℕ) → IsFirstTooLong logs j
    → IsFirstTooLong logs k
    → j ≡ k
IsFirstTooLong-is_unique logs j k a b =
    omega (arith, not_shorter logs j k a b, not_shorter logs k j b a)

first_is : (x y : BadLineAt) (xs ys : List BadLineAt) → x ∷ xs ≡ y ∷ ys → x ≡ y
first_is x y xs ys e = cc

same_bad_lines : (lines : List BadLineAt) (m n : Place) (why how : Why)
    → IsFirstBadLine lines m why → IsFirstBadLine lines n how → BadLine m why ≡ BadLine n how
same_bad_lines lines m n why how a b =
    ap (λ (s : BadLineAt). BadLine s.place s.why)
    (first_is (record { place = m; why = why }) (record { place = n; why = how }) a.0 b.0
    (sym a.1 ∙ b.1))

pub IsRefusal-is_unique : (logs : List (List ℕ)) (f g : Fault) → f ≢ Memory → g ≢ Memory
    → IsRefusal logs f → IsRefusal logs g → f ≡ g
IsRefusal-is_unique logs Memory g nf ng a b = absurd (nf refl)
IsRefusal-is_unique logs (Read log) g nf ng a b = absurd a
IsRefusal-is_unique logs Write g nf ng a b = absurd a
IsRefusal-is_unique logs (BadBase line) g nf ng a b = absurd a
IsRefusal-is_unique logs TooManyLogs Memory nf ng a b = absurd (ng refl)
IsRefusal-is_unique logs TooManyLogs (Read log) nf ng a b = absurd b
IsRefusal-is_unique logs TooManyLogs Write nf ng a b = absurd b
IsRefusal-is_unique logs TooManyLogs (BadBase line) nf ng a b = absurd b
IsRefusal-is_unique logs TooManyLogs TooManyLogs nf ng a b = refl
IsRefusal-is_unique logs TooManyLogs (LogTooLong k) nf ng a b = absurd (omega (arith, a, b.0))
IsRefusal-is_unique logs TooManyLogs (BadLine n how) nf ng a b = absurd (omega (arith, a, b.0.0))
IsRefusal-is_unique logs TooManyLogs TooManyInstances nf ng a b = absurd (omega (arith, a, b.0.0.0))
IsRefusal-is_unique logs TooManyLogs (Disagree y r s) nf ng a b = absurd (omega (arith, a, b.0.0.0))
IsRefusal-is_unique logs (LogTooLong j) Memory nf ng a b = absurd (ng refl)
IsRefusal-is_unique logs (LogTooLong j) (Read log) nf ng a b = absurd b
IsRefusal-is_unique logs (LogTooLong j) Write nf ng a b = absurd b
IsRefusal-is_unique logs (LogTooLong j) (BadBase line) nf ng a b = absurd b
IsRefusal-is_unique logs (LogTooLong j) TooManyLogs nf ng a b = absurd (omega (arith, b, a.0))
IsRefusal-is_unique logs (LogTooLong j) (LogTooLong k) nf ng a b =
    ap LogTooLong (IsFirstTooLong-is_unique logs j k a.1 b.1)
IsRefusal-is_unique logs (LogTooLong j) (BadLine n how) nf ng a b =
    absurd (none_and_first_too_long logs j (b.0.1) a.1)
IsRefusal-is_unique logs (LogTooLong j) TooManyInstances nf ng a b =
    absurd (none_and_first_too_long logs j (b.0.0.1) a.1)
IsRefusal-is_unique logs (LogTooLong j) (Disagree y r s) nf ng a b =
    absurd (none_and_first_too_long logs j (b.0.0.1) a.1)
IsRefusal-is_unique logs (BadLine m why) Memory nf ng a b = absurd (ng refl)
IsRefusal-is_unique logs (BadLine m why) (Read log) nf ng a b = absurd b
IsRefusal-is_unique logs (BadLine m why) Write nf ng a b = absurd b
IsRefusal-is_unique logs (BadLine m why) (BadBase line) nf ng a b = absurd b
IsRefusal-is_unique logs (BadLine m why) TooManyLogs nf ng a b = absurd (omega (arith, b, a.0.0))
IsRefusal-is_unique logs (BadLine m why) (LogTooLong k) nf ng a b =
    absurd (none_and_first_too_long logs k (a.0.1) b.1)
IsRefusal-is_unique logs (BadLine m why) (BadLine n how) nf ng a b =
    same_bad_lines (bad_lines_of logs) m n why how a.1 b.1
IsRefusal-is_unique logs (BadLine m why) TooManyInstances nf ng a b = let some = a.1.1 in
    let none = b.0.1 in cc
IsRefusal-is_unique logs (BadLine m why) (Disagree y r s) nf ng a b = let some = a.1.1 in
    let none = b.0.1 in cc
IsRefusal-is_unique logs TooManyInstances Memory nf ng a b = absurd (ng refl)
IsRefusal-is_unique logs TooManyInstances (Read log) nf ng a b = absurd b
IsRefusal-is_unique logs TooManyInstances Write nf ng a b = absurd b
IsRefusal-is_unique logs TooManyInstances (BadBase line) nf ng a b = absurd b
IsRefusal-is_unique logs TooManyInstances TooManyLogs nf ng a b = absurd (omega (arith, b, a.0.0.0))
IsRefusal-is_unique logs TooManyInstances (LogTooLong k) nf ng a b =
    absurd (none_and_first_too_long logs k (a.0.0.1) b.1)
IsRefusal-is_unique logs TooManyInstances (BadLine n how) nf ng a b = let some = b.1.1 in
    let none = a.0.1 in cc
IsRefusal-is_unique logs TooManyInstances TooManyInstances nf ng a b = refl
IsRefusal-is_unique logs TooManyInstances (Disagree y r s) nf ng a b =
    absurd (ManyInstances-not_few (placed_of logs) b.1 a.1)
IsRefusal-is_unique logs (Disagree x p q) Memory nf ng a b = absurd (ng refl)
IsRefusal-is_unique logs (Disagree x p q) (Read log) nf ng a b = absurd b
IsRefusal-is_unique logs (Disagree x p q) Write nf ng a b = absurd b
IsRefusal-is_unique logs (Disagree x p q) (BadBase line) nf ng a b = absurd b
IsRefusal-is_unique logs (Disagree x p q) TooManyLogs nf ng a b = absurd (omega (arith, b, a.0.0.0))
IsRefusal-is_unique logs (Disagree x p q) (LogTooLong k) nf ng a b =
    absurd (none_and_first_too_long logs k (a.0.0.1) b.1)
IsRefusal-is_unique logs (Disagree x p q) (BadLine n how) nf ng a b = let some = b.1.1 in
    let none = a.0.1 in cc
IsRefusal-is_unique logs (Disagree x p q) TooManyInstances nf ng a b =
    absurd (ManyInstances-not_few (placed_of logs) a.1 b.1)
IsRefusal-is_unique logs (Disagree x p q) (Disagree y r s) nf ng a b =
    same_disagreement logs x y p q r s a.2 b.2
