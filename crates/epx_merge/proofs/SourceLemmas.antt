-- Sources read one after another.
use Rattle.std.proofs.Common.{◌≡◌, ◌↔◌, ◌+◌, ◌++◌, ◌<◌, ◌≤◌, ℕ, Bool, true, false, List, [], ◌∷◌}
use Rattle.std.proofs.Common.{length, take, drop, get_or, set, All, Option, Some, None, Result, Ok}
use Rattle.std.proofs.Common.{Err, slice_get, IfSome, IsErrOf, refl, sym, ap, ap₂, ◌∙◌, subst, inl}
use Rattle.std.proofs.Common.{inr, arith, drop-set-lt}
use Rattle.epx_types.proofs.Common.{cases_eq, length-map, length-set, length-append, length-take-le}
use Rattle.epx_types.proofs.Common.{take_more, take_more_set, take_all, get_or-drop}
use Rattle.epx_types.proofs.Common.{get_or-set_same, get_or-set_other, get_or-take, All-push}
use Rattle.epx_types.proofs.Common.{slice_get_within, slice_get-get_or, get_or_from_slice_get}
use Rattle.epx_types.proofs.Common.{Consumes, IsAtEnd, slice_get-from_map, max_logs, max_log_bytes}
use Rattle.epx_types.specs.declared.fault.Fault.{Fault}
use Rattle.epx_types.specs.declared.fault.Fault.TheVariants.{TooManyLogs, LogTooLong, BadLine}
use Rattle.epx_types.specs.declared.fault.Fault.TheVariants.{TooManyInstances, Disagree, Read}
use Rattle.epx_types.specs.declared.fault.Fault.TheVariants.{BadBase, Memory, Write}
use Rattle.std.proofs.lemmas.Grind.{drop_more_same}
use Rattle.std.proofs.lemmas.List.Elements.{All-set}
use Rattle.epx_types.proofs.lists.ListPositionLemmas.{slice_get-map}
use Rattle.epx_merge.specs.Refusals.{FitLimits}
use Rattle.epx_devices.specs.Transfers.{IsReadLogFault, ConsumesUpTo, ConsumesExactly}
use Rattle.epx_merge.specs.ReadingRefusals.{AreBytesOf, NoneTooLongBefore, IsReadingRefusal}
use Rattle.epx_merge.specs.SourceEndings.{EachConsumesUpTo}
use Rattle.epx_merge.specs.between.SourceReadings.{FirstAreRead}
use Rattle.epx_merge.proofs.ConsumedLemmas.{EachConsumesUpTo-refl, EachConsumesUpTo-set}
use Rattle.epx_devices.specs.Models.{SourceModel}

-- bytes that begin with other bytes are at least as many
pub Consumes-length : (later : Option (List ℕ)) (bytes start : List ℕ)
    → Consumes (Some bytes) later start
    → length start ≤ length bytes
Consumes-length None bytes start h = absurd h
Consumes-length (Some rest) bytes start h = omega (arith, ap length h, length-append start rest)

module _ {S : Type 0} (D : SourceModel S) where
  pub FirstAreRead-none : (first : List S) → All (λ s. D.has_failed s ≡ false) first
      → FirstAreRead D first first 0 []
  FirstAreRead-none first whole = record {
    as_many = refl;
    within = omega arith;
    rest = refl;
    whole = whole;
    known = λ logs e. refl;
    short = λ k d l. absurd (omega arith);
    count = refl;
    taken = EachConsumesUpTo-refl D (max_log_bytes + 1) first;
    ended = λ k d l. absurd (omega arith);
  }

  -- the bytes of one source
  bytes_at : (first : List S) (logs : List (List ℕ)) → AreBytesOf D first logs
      → (n : ℕ) (s : S) → slice_get first n ≡ Some s
      → (b : List ℕ) × (slice_get logs n ≡ Some b) × (D.remaining s ≡ Some b)
  bytes_at first logs e n s there =
      let here = sym (ap (λ xs. slice_get xs n) e) ∙ slice_get-map D.remaining first n s there in
      let b = slice_get-from_map Some logs n (D.remaining s) here in
      (b.0, b.1, sym b.2)

  pub length-source_logs : (first : List S) (logs : List (List ℕ)) → AreBytesOf D first logs
      → length logs ≡ length first
  length-source_logs first logs e = sym (length-map logs Some) ∙ sym (ap length e)
      ∙ length-map first D.remaining

  fault_in : {T : Type 0} → Result T Fault → Fault
  fault_in (Ok x) = Memory
  fault_in (Err f) = f

  -- a source that was read has not failed
  pub IsErrOf-ok_not_failed : {T : Type 0} (failed : Bool) (x : T) (log : ℕ)
      → IsErrOf {T = T} (Ok x) (Read log) ↔ (failed ≡ true) → failed ≡ false
  IsErrOf-ok_not_failed true x log h = absurd (cc (h.1 refl))
  IsErrOf-ok_not_failed false x log h = refl

  module _ (first now : List S) (n : ℕ) (read : List (List ℕ))
      (h : FirstAreRead D first now n read) where
    -- the next source is unchanged
    pub get_or-next_source : (d : S) → get_or now n d ≡ get_or first n d
    get_or-next_source d =
        let none : n + 0 ≡ n = omega arith in
        ap (λ k. get_or now k d) (sym none) ∙ sym (get_or-drop n now 0 d) ∙ ap (λ l. get_or l 0 d)
        h.rest ∙ get_or-drop n first 0 d ∙ ap (λ k. get_or first k d) none

    next_source : n < length first → (d : S) → slice_get first n ≡ Some (get_or now n d)
    next_source l d = slice_get-get_or first n d l ∙ ap Some (sym (get_or-next_source d))

    -- the sources after it are unchanged too
    pub drop-set_next : (later : S) → drop (n + 1) (set now n later) ≡ drop (n + 1) first
    drop-set_next later = drop-set-lt (n + 1) now n later (omega arith)
        ∙ drop_more_same now first n h.rest

    pub EachConsumesUpTo-further : (d later : S)
        → ConsumesUpTo (D.remaining (get_or now n d)) (D.remaining later) (max_log_bytes + 1)
        → EachConsumesUpTo D first (set now n later) (max_log_bytes + 1)
    EachConsumesUpTo-further d later c =
        EachConsumesUpTo-set D (max_log_bytes + 1) first now n d later
        h.taken (subst (λ s. ConsumesUpTo (D.remaining s) (D.remaining later) (max_log_bytes + 1))
        (get_or-next_source d) c)

    pub FirstAreRead-step : n < length first → (d later : S) → D.has_failed later ≡ false
        → (bytes : List ℕ)
        → IfSome (D.remaining (get_or now n d)) (λ all. bytes ≡ all) → length bytes ≤ max_log_bytes
        → ConsumesUpTo (D.remaining (get_or now n d)) (D.remaining later) (max_log_bytes + 1)
        → IsAtEnd (D.remaining later) → FirstAreRead D first (set now n later)
        (n + 1) (read ++ bytes ∷ [])
    FirstAreRead-step l d later whole bytes gives few took end = record {
      as_many = length-set now n later ∙ h.as_many;
      within = omega (arith, l, h.as_many);
      rest = drop-set_next later;
      whole = All-set (λ s. D.has_failed s ≡ false) now n later whole h.whole;
      known = λ logs e.
          let b = bytes_at first logs e n (get_or now n d) (next_source l d) in
          let same : bytes ≡ b.0 = subst (λ o. IfSome o (λ all. bytes ≡ all)) b.2 gives in
          let more = take_more logs n b.0 (slice_get_within logs n b.0 b.1) in
          ap₂ (λ r x. r ++ x ∷ []) (h.known logs e)
          (same ∙ sym (get_or_from_slice_get logs n b.0 b.0 b.1)) ∙ sym more;
      short = All-push (λ bytes. length bytes ≤ max_log_bytes) read bytes h.short few;
      count = omega (arith, h.count, length-append read (bytes ∷ []));
      taken = EachConsumesUpTo-further d later took;
      ended = subst (All (λ s. IsAtEnd (D.remaining s)))
          (sym (take_more_set now n later (omega (arith, l, h.as_many))))
          (All-push (λ s. IsAtEnd (D.remaining s)) (take n now) later h.ended end);
    }

    -- a log that was read is not too long
    short_before : n < length first → (logs : List (List ℕ)) → AreBytesOf D first logs
        → NoneTooLongBefore logs n
    short_before l logs e k bytes m there =
        let here : get_or (take n logs) k bytes ≡ bytes =
        get_or-take n logs k bytes m ∙ get_or_from_slice_get logs k bytes bytes there in
        let many = length-take-le n logs
        (omega (arith, l, h.as_many, length-source_logs first logs e)) in
        let short = subst (All (λ bytes. length bytes ≤ max_log_bytes)) (h.known logs e) h.short in
        subst (λ b. length b ≤ max_log_bytes) here (short k bytes (omega (arith, many, m)))

    pub IsReadingRefusal-log_fault : {T : Type 0} → n < length first → length first ≤ max_logs
        → (d : S) (later : Option (List ℕ)) (f : Fault) → IsReadLogFault n f
        → (IsErrOf {T = T} (Err f) (LogTooLong n)
        → ConsumesExactly (D.remaining (get_or now n d)) later (max_log_bytes + 1))
        → (logs : List (List ℕ)) → AreBytesOf D first logs → IsReadingRefusal logs f
    IsReadingRefusal-log_fault l few d later Memory of_log long logs e = tt
    IsReadingRefusal-log_fault l few d later TooManyLogs of_log long logs e = absurd of_log
    IsReadingRefusal-log_fault l few d later (LogTooLong log) of_log long logs e =
        let b = bytes_at first logs e n (get_or now n d) (next_source l d) in
        let taken = long (ap (λ k. Err (LogTooLong k)) of_log) in
        let all =
        Consumes-length later b.0 taken.0 (subst (λ o. Consumes o later taken.0) b.2 taken.1) in
        let P : ℕ → Type 0 = λ k. IsReadingRefusal logs (LogTooLong k) in
        subst P (sym of_log) (
          omega (arith, few, length-source_logs first logs e),
          record { long = (b.0, b.1, omega (arith, all, taken.2)); first = short_before l logs e },
        )
    IsReadingRefusal-log_fault l few d later (BadLine place why) of_log long logs e = absurd of_log
    IsReadingRefusal-log_fault l few d later TooManyInstances of_log long logs e = absurd of_log
    IsReadingRefusal-log_fault l few d later (Disagree id one other) of_log long logs e =
        absurd of_log
    IsReadingRefusal-log_fault l few d later (Read log) of_log long logs e =
        let P : ℕ → Type 0 = λ k. IsReadingRefusal logs (Read k) in
        subst P (sym of_log) (
          omega (arith, few, length-source_logs first logs e),
          omega (arith, l, length-source_logs first logs e),
          short_before l logs e,
        )
    IsReadingRefusal-log_fault l few d later Write of_log long logs e = absurd of_log
    IsReadingRefusal-log_fault l few d later (BadBase line) of_log long logs e = absurd of_log

    -- logs that were all read are within the limits
    pub FitLimits-all_read : length first ≤ n → length first ≤ max_logs → FitLimits read
    FitLimits-all_read all few = (
      omega (arith, few, h.count, h.within),
      λ k bytes there. subst (λ b. length b ≤ max_log_bytes)
          (get_or_from_slice_get read k bytes bytes there)
          (h.short k bytes (slice_get_within read k bytes there)),
    )

    -- there is one log for each source
    pub length-all_read : length first ≤ n → length read ≡ length first
    length-all_read all = omega (arith, all, h.count, h.within)

    -- the logs are the bytes of the sources, where these are known
    pub AreBytesOf-all_read : length first ≤ n → (logs : List (List ℕ)) → AreBytesOf D first logs
        → read ≡ logs
    AreBytesOf-all_read all logs e =
        h.known logs e ∙ take_all n logs (omega (arith, all, length-source_logs first logs e))

    -- all sources are at their ends
    pub All-at_end : length first ≤ n → All (λ s. IsAtEnd (D.remaining s)) now
    All-at_end all = subst (All (λ s. IsAtEnd (D.remaining s)))
        (take_all n now (omega (arith, all, h.as_many))) h.ended

    -- no source has failed
    pub has_failed-none : (k : ℕ) (s : S) → slice_get now k ≡ Some s → D.has_failed s ≡ false
    has_failed-none k s there = subst (λ t. D.has_failed t ≡ false)
        (get_or_from_slice_get now k s s there) (h.whole k s (slice_get_within now k s there))

    -- the fault names the source that failed
    pub IsErrOf-iff_failed : {T V : Type 0} → n < length first → (later : S) (f : Fault)
        → IsReadLogFault n f → IsErrOf {T = T} (Err f) (Read n) ↔ (D.has_failed later ≡ true)
        → (k : ℕ) (s : S) → slice_get (set now n later) k ≡ Some s
        → IsErrOf {T = V} (Err f) (Read k) ↔ (D.has_failed s ≡ true)
    unfolding fault_in
    IsErrOf-iff_failed {T} {V} l later f of_log failed k s there =
        let entry = get_or_from_slice_get (set now n later) k s s there in
        elim (cases_eq k n) [
          | inl e ↦
              let same : later ≡ s =
              sym (get_or-set_same now n later s (omega (arith, l, h.as_many)))
              ∙ ap (λ i. get_or (set now n later) i s) (sym e) ∙ entry in (
                λ is. subst (λ t. D.has_failed t ≡ true) same
                    (failed.0 (ap Err (ap fault_in is ∙ ap Read e))),
                λ bad. ap Err
                    (ap fault_in (failed.1 (subst (λ t. D.has_failed t ≡ true) (sym same) bad))
                    ∙ ap Read (sym e)),
              )
          | inr other ↦
              let well : D.has_failed s ≡ false = subst (λ t. D.has_failed t ≡ false)
              (sym (get_or-set_other now n k later s other) ∙ entry)
              (h.whole k s
              (omega (
                arith,
                slice_get_within (set now n later) k s there,
                length-set now n later,
              ))) in (
                λ is. absurd (other (subst (IsReadLogFault n) (ap fault_in is) of_log)),
                λ bad. absurd (cc (well, bad)),
              )
        ]
