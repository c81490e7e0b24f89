-- Which source failed, if a run returns that a source cannot be read.
use Rattle.std.proofs.Common.{◌≡◌, ◌⊎◌, ℕ, zero, suc, List, [], ◌∷◌, Some, slice_get, Result, Err}
use Rattle.std.proofs.Common.{IsErrOf, inl, inr, subst, ◌≢◌}
use Rattle.epx_types.proofs.Common.{IfErr}
use Rattle.epx_types.specs.declared.fault.Fault.{Fault}
use Rattle.epx_types.specs.declared.fault.Fault.TheVariants.{Read, Write}
use Rattle.epx_devices.specs.declared.either_source.EitherSource.TheVariants.{First, Second}
use Rattle.epx_devices.specs.EitherSources.{either_source}
use Rattle.epx_devices.specs.Models.{SourceModel}
use Rattle.epx_devices.proofs.EitherSourceLemmas.{DeliversThenFails-from_first}
use Rattle.epx_devices.proofs.EitherSourceLemmas.{DeliversThenFails-from_second}
use Rattle.epx_tool.specs.Delivered.{EndsRefused}
use Rattle.epx_merge.specs.DeliveredLogs.{StopsAtSource}
use Rattle.epx_tool.specs.DeliveredWithInput.{EndsWithoutBoth}
use Rattle.epx_names.specs.declared.task.Task.{Task}
use Rattle.epx_names.specs.declared.task.Task.TheVariants.{Compare}
use Rattle.epx_tool.specs.TaskAnswers.{AnswersLogs}
use Rattle.epx_program.specs.Inputs.{HasFailedRead, OneHasFailedRead}

-- no refusal of logs is a failed read
not_unread : (task : Task) (logs : List (List ℕ)) (log : ℕ)
    → ¬ AnswersLogs task logs (Err (Read log))
not_unread Compare logs log h = h
not_unread task logs log h = h

module _ {S : Type 0} (D : SourceModel S) (before after : List S) where
  at_source : (log : ℕ) → StopsAtSource D before after (Read log) → OneHasFailedRead D before
  at_source log h =
      record { log = h.log; source = h.first; there = h.was; failed = (h.last, h.stopped.1) }

  module _ (task : Task) where
    abbrev EndsLogs : Fault → Type 0
    EndsLogs fault =
        EndsRefused D (λ logs why. AnswersLogs task logs (Err why)) before after fault

    unread_of : (log : ℕ) → EndsLogs (Read log) → OneHasFailedRead D before
    unread_of log (inl (inl none)) = absurd none
    unread_of log (inl (inr source)) = at_source log source
    unread_of log (inr refused) = absurd (not_unread task refused.logs log refused.refusal)

    -- a run over logs that ends this way has a source that failed
    pub OneHasFailedRead-unread : {A : Type 0} (done : Result A Fault)
        → IfErr done (λ fault. fault ≢ Write → EndsLogs fault)
        → (log : ℕ) → IsErrOf done (Read log) → OneHasFailedRead D before
    OneHasFailedRead-unread (Err fault) h log is =
        let named : fault ≡ Read log = cc is in
        let Ends : Fault → Type 0 = λ f. f ≢ Write → EndsLogs f in
        unread_of log (subst Ends named h (λ write. absurd (cc write)))
    OneHasFailedRead-unread done h log is = absurd (cc is)

  module _ {I : Type 0} (E : SourceModel I) (IsBad : List ℕ → ℕ → Type 0) (first last : I) where
    abbrev Ends : Fault → Type 0
    Ends fault = EndsWithoutBoth E D IsBad first last before after fault

    unread_of_both : (log : ℕ) → Ends (Read log)
        → HasFailedRead E first ⊎ OneHasFailedRead D before
    unread_of_both log (inl (inl (inl none))) = absurd none
    unread_of_both log (inl (inl (inr source))) = inr (at_source log source)
    unread_of_both log (inl (inr input)) = inl (last, input.stopped.1)
    unread_of_both log (inr refused) = absurd refused.refusal.1

    -- so has a run over an extra input and logs, or the extra input failed
    pub HasFailedRead-unread : {A : Type 0} (done : Result A Fault)
        → IfErr done (λ fault. fault ≢ Write → Ends fault)
        → (log : ℕ) → IsErrOf done (Read log)
        → HasFailedRead E first ⊎ OneHasFailedRead D before
    HasFailedRead-unread (Err fault) h log is =
        let named : fault ≡ Read log = cc is in
        let Stops : Fault → Type 0 = λ f. f ≢ Write → Ends f in
        unread_of_both log (subst Stops named h (λ write. absurd (cc write)))
    HasFailedRead-unread done h log is = absurd (cc is)

only_source : {S : Type 0} (log : ℕ) (source s : S) → slice_get (source ∷ []) log ≡ Some s
    → s ≡ source
only_source zero source s there = cc there
only_source (suc log) source s there = absurd (cc there)

-- if there is only one source, it is that one
pub HasFailedRead-alone : {S : Type 0} (D : SourceModel S) (source : S)
    → OneHasFailedRead D (source ∷ []) → HasFailedRead D source
HasFailedRead-alone D source h =
    subst (HasFailedRead D) (only_source h.log source h.source h.there) h.failed

-- if the input is the only source, the input failed
pub HasFailedRead-input : {P I M : Type 0} (path : SourceModel P) (E : SourceModel I)
    (memory : SourceModel M) (input : I)
    → HasFailedRead (either_source path (either_source E memory)) (Second (First input))
    → HasFailedRead E input
HasFailedRead-input path E memory input h =
    let inner = DeliversThenFails-from_second path (either_source E memory) (First input) h.0 h.1 in
    DeliversThenFails-from_first E memory input inner.0 inner.1
