-- How far the lines of sources are gathered, once one more part of a log is read.
use Rattle.std.proofs.Common.{◌≡◌, ◌<◌, ◌≤◌, ◌⊎◌, ◌+◌, ◌-◌, ◌*◌, ◌++◌, ◌∷◌, ◌∙◌, [], ℕ, zero, suc}
use Rattle.std.proofs.Common.{Bool, true, false, List, length, take, drop, get_or, set, All, Result}
use Rattle.std.proofs.Common.{Ok, Err, MatchResult, Vec, Global, inl, inr, refl, sym, ap, subst}
use Rattle.std.proofs.Common.{arith, append-nil, append_assoc, length-append}
use Rattle.epx_types.proofs.Common.{take-length, get_or_default, get_or-set_same, length-set}
use Rattle.epx_types.proofs.Common.{length-take-le, nil_from_length, take-append-drop, max_logs}
use Rattle.epx_types.proofs.Common.{max_log_bytes}
use Rattle.epx_types.specs.declared.fault.Fault.{Fault}
use Rattle.std.proofs.Math.Seq.{drop-length}
use Rattle.epx_types.specs.declared.fault.Fault.TheVariants.{Memory}
use Rattle.epx_lines.specs.Lines.{lines_of}
use Rattle.epx_devices.specs.Models.{SourceModel}
use Rattle.epx_devices.specs.between.LogParts.{EndsLog, EndsPart, IsFrontOfLog, IsReadUpTo}
use Rattle.epx_devices.specs.declared.transfer.LogPart.{LogPart}
use Rattle.epx_devices.proofs.TransferLemmas.{IsReadUpTo-none, EndsLog-out_of_memory}
use Rattle.epx_merge.specs.LogLines.{MeaningAt, meanings_in, meanings_of}
use Rattle.epx_merge.specs.between.RedundantLines.{DropsCached}
use Rattle.epx_merge.specs.LogParts.{EndsLine, lines_so_far}
use Rattle.epx_merge.proofs.LogPartLemmas.{length-lines_of_bound, lines_so_far-next_log}
use Rattle.epx_merge.proofs.LogPartLemmas.{lines_so_far-part}
use Rattle.epx_merge.proofs.LogPartLemmas.{length-lines_of_append, lines_of_part}
use Rattle.epx_merge.specs.declared.gathered_lines.ReadPosition.{ReadPosition}
use Rattle.epx_merge.specs.inner.Gathered.{AreGathered, AreReadOnward, IsNextBegun, most_unread}
use Rattle.epx_merge.specs.between.SourceReadings.{AreDeliveredUpTo, EndsReading}
use Rattle.epx_merge.proofs.SourceReadingLemmas as reading

-- what is put in a place a second time stays there
set_twice : {X : Type 0} (xs : List X) (n : ℕ) (x y : X) → set (set xs n x) n y ≡ set xs n y
set_twice [] n x y = refl
set_twice (z ∷ xs) zero x y = refl
set_twice (z ∷ xs) (suc n) x y = ap (λ l. z ∷ l) (set_twice xs n x y)

-- whole lines after whole lines
pub EndsLine-append : (front lines : List ℕ) → EndsLine front → EndsLine lines
    → EndsLine (front ++ lines)
EndsLine-append front lines ends (inl none) =
    subst EndsLine (sym (ap (λ l. front ++ l) none ∙ append-nil front)) ends
EndsLine-append front lines ends (inr (before, is)) =
    inr (front ++ before, ap (λ l. front ++ l) is ∙ sym (append_assoc front before (10 ∷ [])))

module _ {S : Type 0} (D : SourceModel S) (first now : List S)
    (few : length now ≤ max_logs) (ended : List (List ℕ)) (bytes : List ℕ)
    (h : AreReadOnward D first now ended bytes) where
  -- the number of sources stays
  pub length-gathered : length now ≡ length first
  length-gathered = by h.begun where
    by : IsNextBegun D h.before now (length ended) bytes → length now ≡ length first
    by (inl (same, none)) = ap length same ∙ h.read.read.as_many
    by (inr (source, within, same, read, short)) = ap length same
        ∙ length-set h.before (length ended) source ∙ h.read.read.as_many

  few_first : length first ≤ max_logs
  few_first = omega (arith, length-gathered, few)

  module _ (within : length ended < length now) (d : S) where
    -- the source as it was before its first byte was read
    abbrev pub origin : S
    origin = get_or h.before (length ended) d

    within_before : length ended < length h.before
    within_before = omega (arith, length-gathered, h.read.read.as_many, within)

    pub IsReadUpTo-onward : IsReadUpTo D origin (get_or now (length ended) d)
        bytes × (length bytes ≤ max_log_bytes)
    IsReadUpTo-onward = by h.begun where
      n : ℕ
      n = length ended

      by : IsNextBegun D h.before now n bytes → IsReadUpTo D origin (get_or now n d) bytes
          × (length bytes ≤ max_log_bytes)
      by (inl (same, none)) =
          let well = h.read.read.whole n d within_before in (
            rw (same, none) (IsReadUpTo-none D origin well),
            rw none (omega arith),
          )
      by (inr (source, inside, same, read, short)) =
          let at : get_or now n d ≡ source = ap (λ xs. get_or xs n d) same
          ∙ get_or-set_same h.before n source d within_before in
          let from : get_or h.before n source ≡ origin =
          get_or_default h.before n source d within_before in (
            rw at (subst (λ s. IsReadUpTo D s source bytes) from read),
            short,
          )

    -- the source changes, and no other
    set_here : (later : S) → set h.before (length ended) later ≡ set now (length ended) later
    set_here later = by h.begun where
      by : IsNextBegun D h.before now (length ended) bytes
          → set h.before (length ended) later ≡ set now (length ended) later
      by (inl (same, none)) = ap (λ xs. set xs (length ended) later) (sym same)
      by (inr (source, inside, same, read, short)) =
          sym (ap (λ xs. set xs (length ended) later) same
          ∙ set_twice h.before (length ended) source later)

    -- how reading the log ended
    log_ended : (later : S) (result : Result (List ℕ) Fault)
        → EndsLog D (length ended) origin later result → MatchResult result
        (λ log. AreDeliveredUpTo D first (set now (length ended) later)
        (length ended + 1) (ended ++ log ∷ []))
        (λ f. EndsReading D first (set now (length ended) later) (Err f))
    log_ended later result ends =
        subst (λ sources. MatchResult result
        (λ log. AreDeliveredUpTo D first sources (length ended + 1) (ended ++ log ∷ []))
        (λ f. EndsReading D first sources (Err f))) (set_here later)
        (reading.AreDeliveredUpTo-next_log D first h.before (length ended) ended
        h.read few_first (omega (arith, length-gathered, within)) d later result ends)

    -- the next log begins once this one is read
    pub AreReadOnward-next_log : (later : S) (log : List ℕ)
        → EndsLog D (length ended) origin later (Ok log)
        → AreReadOnward D first (set now (length ended) later) (ended ++ log ∷ []) []
    AreReadOnward-next_log later log ends =
        let read = log_ended later (Ok log) ends in
        record {
          before = set now (length ended) later;
          read = subst (λ n. AreDeliveredUpTo D first
              (set now (length ended) later) n (ended ++ log ∷ []))
              (omega (arith, length-append ended (log ∷ []))) read;
          begun = inl (refl, refl);
        }

    -- the log is read, and then memory is out
    pub EndsReading-memory_after_log : (later : S) (log : List ℕ)
        → EndsLog D (length ended) origin later (Ok log)
        → EndsReading D first (set now (length ended) later) (Err Memory)
    EndsReading-memory_after_log later log ends = reading.EndsReading-memory D first
        (set now (length ended) later) (length ended + 1) (ended ++ log ∷ [])
        (log_ended later (Ok log) ends) few_first

    -- more of the log is read
    pub AreReadOnward-more : (later : S) (more : List ℕ)
        → IsReadUpTo D origin later more → length more ≤ max_log_bytes
        → AreReadOnward D first (set now (length ended) later) ended more
    AreReadOnward-more later more read short = record {
      before = h.before;
      read = h.read;
      begun = inr (
        later,
        within_before,
        sym (set_here later),
        subst (λ s. IsReadUpTo D s later more)
            (get_or_default h.before (length ended) d later within_before) read,
        short,
      );
    }

    -- reading on failed
    pub EndsReading-log_fails : (later : S) (fault : Fault)
        → EndsLog D (length ended) origin later (Err fault)
        → EndsReading D first (set now (length ended) later) (Err fault)
    EndsReading-log_fails later fault ends = log_ended later (Err fault) ends

    -- more of the log is read, and then memory is out
    pub EndsReading-memory_in_log : (later : S) (more : List ℕ)
        → IsReadUpTo D origin later more → EndsReading D first (set now (length ended) later)
        (Err Memory)
    EndsReading-memory_in_log later more read = EndsReading-log_fails later Memory
        (EndsLog-out_of_memory D (length ended) origin later later more read)

-- ---- by the position
module _ {S : Type 0} (D : SourceModel S) (first now : List S)
    (few : length now ≤ max_logs) (at : ReadPosition) (lines : List MeaningAt)
    (h : AreGathered D first now at lines) (within : at.log < length now) (d : S) where
  pub ended-within : length h.ended < length now
  ended-within = omega (arith, h.log, within)

  -- the source as it was before its first byte was read
  abbrev pub start : S
  start = origin D first now few h.ended (h.begun ++ at.rest.items) h.read ended-within d

  pub IsReadUpTo-at_position : IsReadUpTo D start (get_or now at.log d) (h.begun ++ at.rest.items)
  IsReadUpTo-at_position = subst (λ n. IsReadUpTo D start (get_or now n d)
      (h.begun ++ at.rest.items)) (sym h.log)
      (IsReadUpTo-onward D first now few h.ended (h.begun ++ at.rest.items) h.read ended-within d).0

  pub done-rest_fits : at.done + length at.rest.items ≤ max_log_bytes
  done-rest_fits =
      let short = (IsReadUpTo-onward D first now few h.ended
      (h.begun ++ at.rest.items) h.read ended-within d).1 in
      omega (arith, h.done, length-append h.begun at.rest.items, short)

  pub EndsReading-part_fails : (later : S) (most : ℕ) (fault : Fault)
      → EndsPart D at.log start later h.begun most (Err fault)
      → EndsReading D first (set now at.log later) (Err fault)
  EndsReading-part_fails later most fault ends =
      subst (λ n. EndsLog D n start later (Err fault)
      → EndsReading D first (set now n later) (Err fault)) (sym h.log)
      (EndsReading-log_fails D first now few h.ended
      (h.begun ++ at.rest.items) h.read ended-within d later fault) ends

  module _ (later : S) (most : ℕ) (part : LogPart)
      (ends : EndsPart D at.log start later h.begun most (Ok part)) where
    abbrev bytes : List ℕ
    bytes = part.bytes.items

    -- memory is out once the part is read
    pub EndsReading-memory_after_part : EndsReading D first (set now at.log later) (Err Memory)
    EndsReading-memory_after_part = by part.is_last ends where
      by : (is_last : Bool) → IsFrontOfLog D at.log start later
          (length h.begun + most) (h.begun ++ bytes) is_last
          → EndsReading D first (set now at.log later) (Err Memory)
      by true is = subst (λ n. EndsReading D first (set now n later) (Err Memory)) (sym h.log)
          (EndsReading-memory_after_log D first now few h.ended
          (h.begun ++ at.rest.items) h.read ended-within d later (h.begun ++ bytes)
          (subst (λ n. EndsLog D n start later (Ok (h.begun ++ bytes))) h.log is))
      by false is = subst (λ n. EndsReading D first (set now n later) (Err Memory)) (sym h.log)
          (EndsReading-memory_in_log D first now few h.ended
          (h.begun ++ at.rest.items) h.read ended-within d later (h.begun ++ bytes) is.0)

    -- the log with this part is no longer than a log may be
    pub done-part_fits : at.done + length bytes ≤ max_log_bytes
    done-part_fits = by part.is_last ends where
      sizes : length (h.begun ++ bytes) ≡ at.done + length bytes
      sizes = omega (arith, h.done, length-append h.begun bytes)

      by : (is_last : Bool) → IsFrontOfLog D at.log start later
          (length h.begun + most) (h.begun ++ bytes) is_last
          → at.done + length bytes ≤ max_log_bytes
      by true is = omega (arith, sizes, is.fits)
      by false is = omega (arith, sizes, is.2)

    -- the lines of the whole part follow, and the next log begins
    pub AreGathered-last_part : part.is_last ≡ true → (rest : Vec ℕ Global) → rest.items ≡ []
        → AreGathered D first (set now at.log later)
        (record { log = at.log + 1; line = 0; done = 0; rest = rest })
        (lines ++ lines_of_part h.ended h.begun bytes)
    AreGathered-last_part last rest none =
        let log = h.begun ++ bytes in
        let ended = h.ended ++ log ∷ [] in
        let is = subst (IsFrontOfLog D at.log start later (length h.begun + most) log) last ends in
        record {
          ended = ended;
          begun = [];
          log = omega (arith, h.log, length-append h.ended (log ∷ []));
          line = refl;
          done = refl;
          whole = inl refl;
          gathered = ap (λ l. l ++ lines_of_part h.ended h.begun bytes) h.gathered
              ∙ lines_so_far-part h.ended h.begun bytes h.whole ∙ lines_so_far-next_log h.ended log;
          read = rw none (subst (λ n. AreReadOnward D first (set now n later) ended []) (sym h.log)
              (AreReadOnward-next_log D first now few h.ended
              (h.begun ++ at.rest.items) h.read ended-within d later log
              (subst (λ n. EndsLog D n start later (Ok log)) h.log is)));
        }

    -- the whole lines of the part follow
    pub AreGathered-more_part : part.is_last ≡ false → (end line : ℕ) → end ≤ length bytes
        → EndsLine (take end bytes) → (rest : Vec ℕ Global) → rest.items ≡ drop end bytes
        → line ≡ at.line + length (lines_of (take end bytes))
        → AreGathered D first (set now at.log later)
        (record { log = at.log; line = line; done = at.done + end; rest = rest })
        (lines ++ lines_of_part h.ended h.begun (take end bytes))
    AreGathered-more_part more end line upto feeds rest left counted =
        let here = take end bytes in
        let begun = h.begun ++ here in
        let is = subst (IsFrontOfLog D at.log start later
        (length h.begun + most) (h.begun ++ bytes)) more ends in
        let same : h.begun ++ bytes ≡ begun ++ rest.items =
        ap (λ l. h.begun ++ l) (sym (take-append-drop end bytes))
        ∙ sym (append_assoc h.begun here (drop end bytes)) ∙ ap (λ l. begun ++ l) (sym left) in
        record {
          ended = h.ended;
          begun = begun;
          log = h.log;
          line = counted ∙ ap (λ n. n + length (lines_of here)) h.line
              ∙ sym (length-lines_of_append h.begun here h.whole);
          done = omega (arith, h.done, length-append h.begun here, length-take-le end bytes upto);
          whole = EndsLine-append h.begun here h.whole feeds;
          gathered = ap (λ l. l ++ lines_of_part h.ended h.begun here) h.gathered
              ∙ lines_so_far-part h.ended h.begun here h.whole;
          read = subst (AreReadOnward D first (set now at.log later) h.ended) same
              (subst (λ n. AreReadOnward D first (set now n later)
              h.ended (h.begun ++ bytes)) (sym h.log)
              (AreReadOnward-more D first now few h.ended
              (h.begun ++ at.rest.items) h.read ended-within d later (h.begun ++ bytes) is.0 is.2));
        }

    -- fewer bytes are left then
    pub most_unread-more_part : part.is_last ≡ false → (end : ℕ) → end ≤ length bytes
        → length at.rest.items < most
        → (length now - at.log) * 67108866 - (at.done + end + length (drop end bytes))
        < (length now - at.log) * 67108866 - (at.done + length at.rest.items)
    most_unread-more_part more end upto room =
        let is = subst (IsFrontOfLog D at.log start later
        (length h.begun + most) (h.begun ++ bytes)) more ends in
        let all = take-append-drop end bytes in
        omega (
          arith,
          within,
          h.done,
          room,
          done-part_fits,
          is.1,
          length-append h.begun bytes,
          ap length all,
          length-append (take end bytes) (drop end bytes),
          length-take-le end bytes upto,
        )

    -- the lines of the part follow those of the log
    pub line-part_fits : (here : List ℕ) → length here ≤ length bytes
        → at.line + length here ≤ max_log_bytes
    line-part_fits here upto =
        omega (arith, h.line, length-lines_of_bound h.begun, h.done, upto, done-part_fits)

    pub DropsCached-part : (cut new : List MeaningAt) (here : List ℕ)
        → DropsCached [] (cut ++ meanings_in at.log (suc at.line) (lines_of here)) new
        → DropsCached [] (cut ++ lines_of_part h.ended h.begun here) new
    DropsCached-part cut new here drops =
        subst (λ n. DropsCached [] (cut ++ meanings_in n (suc (length (lines_of h.begun)))
        (lines_of here)) new) h.log
        (subst (λ n. DropsCached [] (cut ++ meanings_in at.log (suc n) (lines_of here)) new) h.line
        drops)

    -- the position after the lines of the part
    module _ (end line : ℕ) (upto : end ≤ length bytes)
        (all : part.is_last ≡ true → end ≡ length bytes)
        (feeds : part.is_last ≡ false → EndsLine (take end bytes)) (rest : Vec ℕ Global)
        (left : rest.items ≡ drop end bytes) where
      abbrev pub IsNext : ReadPosition → Type 0
      IsNext p = ((part.is_last ≡ true)
          × (p ≡ record { log = at.log + 1; line = 0; done = 0; rest = rest }))
          ⊎ ((part.is_last ≡ false)
          × (p ≡ record { log = at.log; line = line; done = at.done + end; rest = rest }))

      pub AreGathered-next : line ≡ at.line + length (lines_of (take end bytes))
          → (p : ReadPosition)
          → IsNext p
          → AreGathered D first (set now at.log later) p
          (lines ++ lines_of_part h.ended h.begun (take end bytes))
      AreGathered-next counted p (inl (last, is)) =
          let whole : take end bytes ≡ bytes =
          ap (λ n. take n bytes) (all last) ∙ take-length bytes in
          let none : rest.items ≡ [] =
          left ∙ ap (λ n. drop n bytes) (all last) ∙ drop-length bytes in
          rw (is, whole) (AreGathered-last_part last rest none)
      AreGathered-next counted p (inr (more, is)) =
          rw is (AreGathered-more_part more end line upto (feeds more) rest left counted)

      pub most_unread-falls : length at.rest.items < most → (p : ReadPosition) → IsNext p
          → most_unread (length (set now at.log later)) p < most_unread (length now) at
      most_unread-falls room p (inl (last, is)) =
          let none : rest.items ≡ [] =
          left ∙ ap (λ n. drop n bytes) (all last) ∙ drop-length bytes in
          rw is (omega (arith, within, done-rest_fits, ap length none, length-set now at.log later))
      most_unread-falls room p (inr (more, is)) =
          let fewer = most_unread-more_part more end upto room in
          rw is (omega (arith, fewer, ap length left, length-set now at.log later))

-- ---- before the first part, and after the last

module _ {S : Type 0} (D : SourceModel S) (first : List S) where
  -- nothing is read yet
  pub AreGathered-none : All (λ s. D.has_failed s ≡ false) first → (at : ReadPosition) → at.log ≡ 0
      → at.line ≡ 0 → at.done ≡ 0 → at.rest.items ≡ []
      → AreGathered D first first at []
  AreGathered-none well at log line done none = record {
    ended = [];
    begun = [];
    log = log;
    line = line;
    done = done;
    whole = inl refl;
    gathered = refl;
    read = record {
      before = first;
      read = reading.AreDeliveredUpTo-none D first well;
      begun = inl (refl, none);
    };
  }

  -- no source is left
  pub EndsReading-all_gathered : (now : List S) → length now ≤ max_logs → (at : ReadPosition)
      → (lines : List MeaningAt) → AreGathered D first now at lines
      → length now ≤ at.log → (logs : List (List ℕ))
      × EndsReading D first now (Ok logs) × (lines ≡ meanings_of logs)
  EndsReading-all_gathered now few at lines h over =
      let bytes = h.begun ++ at.rest.items in
      let many = length-gathered D first now few h.ended bytes h.read in
      by many h.read.begun where
        by : length now ≡ length first
            → IsNextBegun D h.read.before now (length h.ended)
            (h.begun ++ at.rest.items) → (logs : List (List ℕ))
            × EndsReading D first now (Ok logs) × (lines ≡ meanings_of logs)
        by many (inl (same, none)) =
            let begun : h.begun ≡ [] = nil_from_length h.begun
            (omega (arith, ap length none, length-append h.begun at.rest.items)) in (
              h.ended,
              rw same (reading.EndsReading-delivered D first h.read.before
                  (length h.ended) h.ended h.read.read (omega (arith, many, few))
                  (omega (arith, many, h.log, over))),
              h.gathered ∙ ap (lines_so_far h.ended) begun ∙ append-nil (meanings_of h.ended),
            )
        by many (inr (source, within, same, read, short)) =
            absurd (omega (arith, within, h.log, over, many, h.read.read.read.as_many))
