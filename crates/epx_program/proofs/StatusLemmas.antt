-- The exit status of the program.
use Rattle.std.proofs.Common.{◌≡◌, ◌≢◌, ◌⊎◌, ◌↔◌, ◌∙◌, ℕ, zero, suc, Bool, true, false, List}
use Rattle.std.proofs.Common.{Option, Result, Ok, Err, IsErrOf, inl, inr, refl, arith, ap, sym}
use Rattle.std.proofs.Common.{subst, IfOk}
use Rattle.epx_types.proofs.Common.{OnOk, IfErr, Keeps, fault_status}
use Rattle.epx_types.specs.declared.fault.Fault.{Fault}
use Rattle.epx_types.specs.declared.fault.Fault.TheVariants.{TooManyLogs, LogTooLong, BadLine}
use Rattle.epx_types.specs.declared.fault.Fault.TheVariants.{TooManyInstances, Disagree, Read}
use Rattle.epx_types.specs.declared.fault.Fault.TheVariants.{BadBase, Memory, Write}
use Rattle.epx_words.specs.Requests.{IfFollow, IfText, IfWork, flags_of}
use Rattle.epx_names.specs.declared.task.Task.{Task}
use Rattle.epx_words.specs.declared.words.FollowOptions.{FollowOptions}
use Rattle.epx_words.specs.declared.words.Words.{Words}
use Rattle.epx_words.specs.declared.words.Words.TheVariants.{Work, WorkWith, Follow, Text}
use Rattle.epx_program.specs.Calls.{EndsTask}
use Rattle.epx_program.specs.Endings.{IsAnswerStatus, IsTaskResult, EndsWith, IsStatus}
use Rattle.epx_program.specs.Endings.{answer_status, status_of}
use Rattle.epx_program.specs.FollowEndings.{EndsFollow}
use Rattle.epx_program.specs.Inputs.{TextRelation}
use Rattle.epx_program.specs.Saving.{SaveRelation}
use Rattle.epx_program.proofs.OutputLemmas.{Keeps-contents}

-- the status of a task that succeeded or failed
pub ends-as-done : (exit_code : Bool) (task : Task) (logs : List (List ℕ))
    (done : Result Bool Fault) (old new : Option (List ℕ)) → IsTaskResult task logs done old new
    → EndsWith exit_code task logs (status_of exit_code done) old new
ends-as-done exit_code task logs (Ok found) old new written = inl (found, refl, written)
ends-as-done exit_code task logs (Err fault) old new why = inr (fault, why, refl)

-- an answer has the status of one
answered_well : (exit_code found : Bool) → IsAnswerStatus (answer_status exit_code found)
answered_well true true = inr refl
answered_well true false = inl refl
answered_well false found = inl refl

pub IsAnswerStatus-not_fault : (fault : Fault) → ¬ IsAnswerStatus (fault_status fault)
IsAnswerStatus-not_fault Memory (inl e) = cc e
IsAnswerStatus-not_fault Memory (inr e) = cc e
IsAnswerStatus-not_fault TooManyLogs (inl e) = cc e
IsAnswerStatus-not_fault TooManyLogs (inr e) = cc e
IsAnswerStatus-not_fault (LogTooLong log) (inl e) = cc e
IsAnswerStatus-not_fault (LogTooLong log) (inr e) = cc e
IsAnswerStatus-not_fault (BadLine place why) (inl e) = cc e
IsAnswerStatus-not_fault (BadLine place why) (inr e) = cc e
IsAnswerStatus-not_fault TooManyInstances (inl e) = cc e
IsAnswerStatus-not_fault TooManyInstances (inr e) = cc e
IsAnswerStatus-not_fault (Disagree id first second) (inl e) = cc e
IsAnswerStatus-not_fault (Disagree id first second) (inr e) = cc e
IsAnswerStatus-not_fault (Read log) (inl e) = cc e
IsAnswerStatus-not_fault (Read log) (inr e) = cc e
IsAnswerStatus-not_fault Write (inl e) = cc e
IsAnswerStatus-not_fault Write (inr e) = cc e
IsAnswerStatus-not_fault (BadBase line) (inl e) = cc e
IsAnswerStatus-not_fault (BadBase line) (inr e) = cc e

-- the status of an answer means that the work was done
pub answer_status-exists : {P : Bool → Type 0} (exit_code : Bool) (done : Result Bool Fault)
    (status : ℕ)
    → status ≡ status_of exit_code done → IfOk done P → IsAnswerStatus status
    → (found : Bool) × (status ≡ answer_status exit_code found) × P found
answer_status-exists exit_code (Ok found) status is h well = (found, is, h)
answer_status-exists exit_code (Err fault) status is h well =
    absurd (IsAnswerStatus-not_fault fault (subst IsAnswerStatus is well))

pub IsStatus-status_of : (exit_code : Bool) (done : Result Bool Fault) (status : ℕ)
    → status ≡ status_of exit_code done → IsStatus status
IsStatus-status_of exit_code (Ok found) status is =
    inl (subst IsAnswerStatus (sym is) (answered_well exit_code found))
IsStatus-status_of exit_code (Err fault) status is = inr (fault, is)

-- status 4 means that a device failed
status_of_device : (fault : Fault) → fault_status fault ≡ 4
    → (fault ≡ Write) ⊎ (log : ℕ) × (fault ≡ Read log)
status_of_device Memory e = absurd (cc e)
status_of_device TooManyLogs e = absurd (cc e)
status_of_device (LogTooLong log) e = absurd (cc e)
status_of_device (BadLine place why) e = absurd (cc e)
status_of_device TooManyInstances e = absurd (cc e)
status_of_device (Disagree id first second) e = absurd (cc e)
status_of_device (Read log) e = inr (log, refl)
status_of_device Write e = inl refl
status_of_device (BadBase line) e = absurd (cc e)

answer_is_no_device : (exit_code found : Bool) → answer_status exit_code found ≢ 4
answer_is_no_device true true e = cc e
answer_is_no_device true false e = cc e
answer_is_no_device false found e = cc e

pub status_of-failed_device : {P Q : Type 0} (exit_code : Bool) (done : Result Bool Fault)
    (status : ℕ)
    → status ≡ status_of exit_code done
    → (IsErrOf done Write → P) → ((log : ℕ) → IsErrOf done (Read log) → Q) → status ≡ 4 → P ⊎ Q
status_of-failed_device exit_code (Ok found) status is written read four =
    absurd (answer_is_no_device exit_code found (sym is ∙ four))
status_of-failed_device exit_code (Err fault) status is written read four =
    elim (status_of_device fault (sym is ∙ four)) [
      | inl write ↦ inl (written (ap Err write))
      | inr unread ↦ inr (read unread.0 (ap Err unread.1))
    ]

-- an output that did not fail is unchanged, unless the status is that of an answer
pub Keeps-by_work : (exit_code : Bool) (done : Result Bool Fault) (status : ℕ) (failed : Bool)
    (old new : Option (List ℕ)) → status ≡ status_of exit_code done
    → IfErr done (λ fault. fault ≢ Write → Keeps old new)
    → IsErrOf done Write ↔ (failed ≡ true) → failed ≡ false → ¬ IsAnswerStatus status
    → Keeps old new
Keeps-by_work exit_code (Ok found) status failed old new is nothing written well other =
    absurd (other (subst IsAnswerStatus (sym is) (answered_well exit_code found)))
Keeps-by_work exit_code (Err fault) status failed old new is nothing written well other =
    nothing (λ named. let bad = written.0 (ap Err named) in cc (well, bad))

-- flushed where the status is that of an answer
pub OnOk-by_status : (exit_code : Bool) (done : Result Bool Fault) (status : ℕ) (P : Type 0)
    → status ≡ status_of exit_code done → OnOk done P → IsAnswerStatus status → P
OnOk-by_status exit_code (Ok found) status P is h well = h
OnOk-by_status exit_code (Err fault) status P is h well =
    absurd (IsAnswerStatus-not_fault fault (subst IsAnswerStatus is well))

pub Keeps-by_text : {W : Type 0} (contents : W → Option (List ℕ)) (before after : W)
    (status result : ℕ) (failed : Bool) → (status ≢ 0 → (result ≡ status) × (after ≡ before))
    → (status ≡ 0 → result ≢ 0 → (result ≡ 4) × (failed ≡ true)) → failed ≡ false
    → ¬ IsAnswerStatus result → Keeps (contents before) (contents after)
Keeps-by_text contents before after zero result failed refused bad well other =
    let is = (bad refl (λ none. other (inl none))).1 in absurd (cc (is, well))
Keeps-by_text contents before after (suc n) result failed refused bad well other =
    Keeps-contents contents before after (refused (λ none. omega (arith, none))).1

-- a text with status 0 is written, or the output failed
pub of-text : {P : Type 0} (result : ℕ) → (result ≢ 0 → (result ≡ 4) × P)
    → (result ≡ 0) ⊎ ((result ≡ 4) × P)
of-text zero failed = inl refl
of-text (suc n) failed = inr (failed (λ none. omega (arith, none)))

shown : {P : Type 0} (result : ℕ) → (result ≡ 0) ⊎ ((result ≡ 4) × P) → IsStatus result
shown result (inl well) = inl (inl well)
shown result (inr failed) = inr (Write, failed.0)

pub IfWork-status : (input : Option (List ℕ)) (Unread : Type 0) (Is : TextRelation) (status : ℕ)
    (failed : Bool) (old new : Option (List ℕ)) (words : Words)
    → IfWork (λ task plan paths. EndsTask input Unread Is (flags_of words).exit_code task paths
    status failed old new) words
    → IfWork (λ task plan paths. IsStatus status) words
IfWork-status input Unread Is status failed old new (Work task plan paths) h = h.ends
IfWork-status input Unread Is status failed old new (WorkWith task plan paths flags) h = h.ends
IfWork-status input Unread Is status failed old new (Follow plan paths options) h = tt
IfWork-status input Unread Is status failed old new (Text text said) h = tt

-- the status of following logs: 0, or that of a fault
abbrev IsFollowStatus : ℕ → Type 0
IsFollowStatus status = (status ≡ 0) ⊎ ((fault : Fault) × (status ≡ fault_status fault))

status_of_following : (Is : TextRelation) (Saving : SaveRelation) (options : FollowOptions)
    (paths : Option (List (List ℕ))) (status : ℕ) (failed : Bool) (old new : Option (List ℕ))
    → EndsFollow Is Saving options paths status failed old new → IsFollowStatus status
status_of_following Is Saving options paths zero failed old new h = inl refl
status_of_following Is Saving options paths (suc n) failed old new h =
    let stopped = h.stopped (λ none. omega (arith, none)) in inr (stopped.0, stopped.1)

pub IfFollow-status : (Is : TextRelation) (Saving : SaveRelation) (status : ℕ) (failed : Bool)
    (old new : Option (List ℕ)) (words : Words)
    → IfFollow (λ plan paths options. EndsFollow Is Saving options paths status failed old new)
    words
    → IfFollow (λ plan paths options. IsFollowStatus status) words
IfFollow-status Is Saving status failed old new (Work task plan paths) h = tt
IfFollow-status Is Saving status failed old new (WorkWith task plan paths flags) h = tt
IfFollow-status Is Saving status failed old new (Follow plan paths options) h =
    status_of_following Is Saving options _ status failed old new h
IfFollow-status Is Saving status failed old new (Text text said) h = tt

followed : (result : ℕ) → IsFollowStatus result → IsStatus result
followed result (inl well) = inl (inl well)
followed result (inr failed) = inr failed

no_five : (result : ℕ) → IsFollowStatus result → result ≢ 5
no_five result (inl well) five = omega (arith, well, five)
no_five result (inr failed) five = IsAnswerStatus-not_fault failed.0 (inr (sym failed.1 ∙ five))

-- the program ends as the words ask, for every kind of words
pub of-words : (P Q : Type 0) (words : Words) (result : ℕ)
    → IfText (λ status. (status ≡ 0) ⊎ (status ≡ 2)) words
    → IfWork (λ task plan paths. IsStatus result) words
    → IfFollow (λ plan paths options. IsFollowStatus result) words
    → IfText (λ status. status ≡ 0 → (result ≡ 0) ⊎ ((result ≡ 4) × Q)) words
    → IfText (λ status. status ≢ 0 → (result ≡ status) × P) words → IsStatus result ⊎ (result ≡ 2)
of-words P Q (Work task plan paths) result said work follow text refused = inl work
of-words P Q (WorkWith task plan paths flags) result said work follow text refused = inl work
of-words P Q (Follow plan paths options) result said work follow text refused =
    inl (followed result follow)
of-words P Q (Text text status) result (inl good) work follow asked refused =
    inl (shown result (asked good))
of-words P Q (Text text status) result (inr two) work follow asked refused =
    inr ((refused (λ none. omega (arith, none, two))).0 ∙ two)

-- only work ends with status 5
pub IfWork-found : (P Q R : Type 0) (words : Words) (result : ℕ)
    → IfText (λ status. (status ≡ 0) ⊎ (status ≡ 2)) words
    → IfWork (λ task plan paths. result ≡ 5 → P) words
    → IfFollow (λ plan paths options. IsFollowStatus result) words
    → IfText (λ status. status ≡ 0 → (result ≡ 0) ⊎ ((result ≡ 4) × Q)) words
    → IfText (λ status. status ≢ 0 → (result ≡ status) × R) words → result ≡ 5 → P
IfWork-found P Q R (Work task plan paths) result said work follow text refused five = work five
IfWork-found P Q R (WorkWith task plan paths flags) result said work follow text refused five =
    work five
IfWork-found P Q R (Follow plan paths options) result said work follow text refused five =
    absurd (no_five result follow five)
IfWork-found P Q R (Text text status) result (inl good) work follow asked refused five =
    elim (asked good) [
      | inl well ↦ absurd (omega (arith, well, five))
      | inr failed ↦ absurd (omega (arith, failed.0, five))
    ]
IfWork-found P Q R (Text text status) result (inr two) work follow asked refused five =
    let is = (refused (λ none. omega (arith, none, two))).0 in
    absurd (omega (arith, is, two, five))
