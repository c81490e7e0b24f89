-- Reading the lines of a text finds what a base says, or the first bad line.
use Rattle.std.proofs.Common.{◌≡◌, ◌⊎◌, inl, inr, ℕ, suc, ◌-◌, ℤ, true, T, List, [], ◌∷◌, ◌++◌}
use Rattle.std.proofs.Common.{take, drop, Some, Result, Ok, Err, refl, sym, ap, ◌∙◌, subst, arith}
use Rattle.std.proofs.Common.{append_assoc, append-nil}
use Rattle.epx_types.proofs.Common.{take-append-drop, is_sorted, key_cmp, Contents, write_all}
use Rattle.epx_types.proofs.Common.{insert_all-from_entries, entries-from_entries}
use Rattle.epx_types.specs.declared.id.Id.{Id}
use Rattle.std.specs.FinMap as contents
use Rattle.epx_lines.specs.Lines.{lines_of}
use Rattle.epx_report.specs.declared.from_value.BaseLine.{BaseLine}
use Rattle.epx_report.specs.declared.from_value.Counts.{Counts}
use Rattle.epx_report.specs.Bases.{Say, lines_in_order, AreBaseParts, AreDoneIn, IsBase, AreWhole}
use Rattle.epx_report.specs.Bases.{BeginBase, IsBadBase}
use Rattle.epx_report.specs.Laws.{BaseOrBadBase, BaseIsNoBadBase, BaseSaysOneThing}
use Rattle.epx_report.specs.Laws.{BadBaseIsBadAtOneLine}
use Rattle.epx_report.specs.inner.Progress.{Progress, nothing_seen, is_complete}
use Rattle.epx_report.specs.between.PutPairs.{put_pairs}
use Rattle.epx_report.specs.inner.BaseReadings.{after_all, base_reading, IsReadBase}
use Rattle.epx_report.proofs.BadLineLemmas.{IsFirstNotGood-if_good, IsFirstNotGood-is_unique}
use Rattle.epx_report.proofs.BegunBaseLemmas.{IsAfter, IsReached, IsReached-after_all, header_parts}
use Rattle.epx_report.proofs.BegunBaseLemmas.{IsBegun-header_parts, and-both, eq-from_true}
use Rattle.epx_report.proofs.FurtherLineLemmas.{AreBaseParts-exists, AreBaseParts-if_counted}
use Rattle.epx_report.proofs.BaseReadingLemmas.{Say-take, Say-is_unique, after_all-front}
use Rattle.epx_report.proofs.BaseReadingLemmas.{AreAllowed}
use Rattle.epx_report.proofs.BaseReadingLemmas.{AreTooFew, Reads, Reads-reading, reading-all}
use Rattle.epx_report.proofs.WholeBaseLemmas.{AreDoneIn-exists, end_of, after_all-whole}
use Rattle.epx_report.proofs.WholeBaseLemmas.{is_complete-end_of}

-- ---- the first lines of a base

-- the header of a report about nothing
abbrev no_counts : Counts
no_counts = record { executed = 0; waiting = 0 }

begin_if_allowed : (ls : List (List ℕ)) → AreAllowed nothing_seen ls → BeginBase ls
begin_if_allowed ls h =
    elim (IsReached-after_all nothing_seen [] h.said h.end (inl (refl, refl)) h.reached) [
      | inl none ↦ record {
        said = h.said;
        more = lines_in_order (header_parts no_counts);
        are_said = h.are_said;
        whole = (
          header_parts no_counts,
          ap (λ ls. ls ++ lines_in_order (header_parts no_counts)) none.1,
          AreBaseParts-if_counted (header_parts no_counts) (IsBegun-header_parts no_counts) refl
              refl,
        );
      }
      | inr begun ↦
          let rest = AreBaseParts-exists begun.parts begun.begun in record {
            said = h.said;
            more = rest.1;
            are_said = h.are_said;
            whole = (
              rest.0,
              ap (λ ls. ls ++ rest.1) (sym begun.lines_are) ∙ rest.2,
              rest.3,
            );
          }
    ]

allowed_if_begin : (ls : List (List ℕ)) → BeginBase ls → AreAllowed nothing_seen ls
allowed_if_begin ls h =
    let parts = h.whole.0 in
    let done = AreDoneIn-exists parts.done parts.replied h.whole.2.distinct.done_rise in
    let end = after_all-whole parts done.0 h.whole.2 done.1 in
    let first = after_all-front nothing_seen h.said h.more (end_of parts done.0)
    (ap (after_all nothing_seen) h.whole.1 ∙ end) in
    record { said = h.said; end = first.0; are_said = h.are_said; reached = first.1 }

-- the first lines of lines that begin a base begin it too
fewer_lines : (n : ℕ) (ls : List (List ℕ)) → BeginBase ls → BeginBase (take n ls)
fewer_lines n ls h = record {
  said = take n h.said;
  more = drop n h.said ++ h.more;
  are_said = Say-take n ls h.said h.are_said;
  whole = (
    h.whole.0,
    sym (append_assoc (take n h.said) (drop n h.said) h.more)
        ∙ ap (λ ls. ls ++ h.more) (take-append-drop n h.said) ∙ h.whole.1,
    h.whole.2,
  );
}

-- ---- a base is what is read as one

put_pairs-all : (ps : List (List ℕ × ℤ)) (m : Contents)
    → put_pairs ps m ≡ write_all contents.insert ps m
put_pairs-all [] m = refl
put_pairs-all (p ∷ ps) m = put_pairs-all ps (contents.insert m p.0 p.1)

pub entries-put_pairs : (ps : List (List ℕ × ℤ)) → T (is_sorted key_cmp ps)
    → contents.entries (put_pairs ps contents.empty) ≡ ps
entries-put_pairs ps rises =
    ap contents.entries (put_pairs-all ps contents.empty ∙ insert_all-from_entries ps rises)
    ∙ entries-from_entries ps rises

-- putting all entries of contents yields these contents
put_entries : (m : Contents) → m ≡ put_pairs (contents.entries m) contents.empty
put_entries m =
    contents.same_entries_map m (put_pairs (contents.entries m) contents.empty)
    (sym (entries-put_pairs (contents.entries m) (contents.entries_sorted m)))

pub IsReadBase-from_IsBase : (bytes : List ℕ) (done : List Id) (stored : Contents)
    → IsBase bytes done stored → IsReadBase bytes done stored
IsReadBase-from_IsBase bytes done stored h = record {
  seen = end_of h.parts done;
  read = reading-all nothing_seen 1 (lines_of bytes) (lines_in_order h.parts)
      (end_of h.parts done) h.said (after_all-whole h.parts done h.are_parts h.are_done)
      (is_complete-end_of h.parts done h.are_parts);
  done_is = refl;
  stored_is = put_entries stored ∙ ap (λ ps. put_pairs ps contents.empty) h.are_stored;
}

-- a state that is complete is that after a whole base
whole_if_complete : (s : Progress) (ls : List BaseLine) → IsReached s ls → is_complete s ≡ true
    → (h : IsAfter s ls) × AreBaseParts h.parts
whole_if_complete s ls (inl none) complete =
    let nothing : is_complete nothing_seen ≡ true = ap is_complete (sym none.0) ∙ complete in
    absurd (cc nothing)
whole_if_complete s ls (inr h) complete =
    let counted = and-both _ _ (ap is_complete h.state_is ∙ complete) in (
      h,
      AreBaseParts-if_counted h.parts h.begun (eq-from_true _ _ counted.0)
          (eq-from_true _ _ counted.1),
    )

pub IsBase-from_IsReadBase : (bytes : List ℕ) (done : List Id) (stored : Contents)
    → IsReadBase bytes done stored → IsBase bytes done stored
IsBase-from_IsReadBase bytes done stored h =
    let all = subst (Reads nothing_seen 1 (lines_of bytes)) h.read
    (Reads-reading nothing_seen 1 (lines_of bytes)) in
    let whole = whole_if_complete h.seen all.said
    (IsReached-after_all nothing_seen [] all.said h.seen (inl (refl, refl)) all.reached)
    all.complete in
    let same_done : whole.0.done ≡ done =
    ap (λ (s : Progress). s.done) whole.0.state_is ∙ sym h.done_is in
    let same_stored : put_pairs whole.0.parts.stored contents.empty ≡ stored =
    ap (λ (s : Progress). put_pairs s.stored contents.empty) whole.0.state_is ∙ sym h.stored_is in
    record {
      parts = whole.0.parts;
      said = subst (Say (lines_of bytes)) (sym whole.0.lines_are) all.are_said;
      are_parts = whole.1;
      are_done = subst (AreDoneIn whole.0.parts.done whole.0.parts.replied) same_done
          whole.0.are_done;
      are_stored = ap contents.entries (sym same_stored)
          ∙ entries-put_pairs whole.0.parts.stored whole.0.begun.stored_rise;
    }

-- ---- a bad base is what reading stops at

-- if lines are missing, the lines do not say all of a base
not_whole_if_few : (ls : List (List ℕ)) (said : List BaseLine)
    → AreTooFew nothing_seen ls → Say ls said → ¬ AreWhole said
not_whole_if_few ls said h e whole =
    let done = AreDoneIn-exists whole.0.done whole.0.replied whole.2.distinct.done_rise in
    let read = after_all-whole whole.0 done.0 whole.2 done.1 in
    let same : said ≡ h.said = Say-is_unique ls said h.said e h.are_said in
    let ends : Some h.end ≡ Some (end_of whole.0 done.0) =
    sym h.reached ∙ ap (after_all nothing_seen) (sym same ∙ whole.1) ∙ read in
    let end : h.end ≡ end_of whole.0 done.0 = cc ends in
    cc (sym h.few ∙ ap is_complete end ∙ is_complete-end_of whole.0 done.0 whole.2)

pub IsBadBase-from_reading : (bytes : List ℕ) (line : ℕ) → base_reading bytes ≡ Err line
    → IsBadBase bytes line
IsBadBase-from_reading bytes line e =
    let ls = lines_of bytes in
    let stopped = subst (Reads nothing_seen 1 ls) e (Reads-reading nothing_seen 1 ls) in
    let before : stopped.0 ≡ line - 1 = omega (arith, stopped.1) in
    let here : suc stopped.0 ≡ line = omega (arith, stopped.1) in
    elim stopped.2 [
      | inl bad ↦ inl (record {
        good_before = subst (λ k. BeginBase (take k ls)) before
            (begin_if_allowed (take stopped.0 ls) bad.0);
        bad_with = subst (λ k. ¬ BeginBase (take k ls)) here
            (λ good. bad.1 (allowed_if_begin (take (suc stopped.0) ls) good));
      })
      | inr early ↦ inr (record {
        line_is = omega (arith, stopped.1, early.0);
        begins = begin_if_allowed ls (record {
          said = early.1.said;
          end = early.1.end;
          are_said = early.1.are_said;
          reached = early.1.reached;
        });
        not_whole = λ said says. not_whole_if_few ls said early.1 says;
      })
    ]

-- ---- the laws

one_or_the_other : (bytes : List ℕ) (r : Result Progress ℕ) → base_reading bytes ≡ r
    → ((done : List Id) × (stored : Contents) × IsBase bytes done stored)
    ⊎ ((line : ℕ) × IsBadBase bytes line)
one_or_the_other bytes (Ok s) e =
    inl (
      s.done,
      put_pairs s.stored contents.empty,
      IsBase-from_IsReadBase bytes s.done (put_pairs s.stored contents.empty)
          (record { seen = s; read = e; done_is = refl; stored_is = refl }),
    )
one_or_the_other bytes (Err n) e = inr (n, IsBadBase-from_reading bytes n e)

pub BaseOrBadBase-holds : BaseOrBadBase
BaseOrBadBase-holds bytes = one_or_the_other bytes (base_reading bytes) refl

-- the lines of a base begin one
base_begins : (bytes : List ℕ) (done : List Id) (stored : Contents) → IsBase bytes done stored
    → BeginBase (lines_of bytes)
base_begins bytes done stored h = record {
  said = lines_in_order h.parts;
  more = [];
  are_said = h.said;
  whole = (h.parts, append-nil (lines_in_order h.parts), h.are_parts);
}

pub BaseIsNoBadBase-holds : BaseIsNoBadBase
BaseIsNoBadBase-holds bytes done stored line is (inl bad) =
    IsFirstNotGood-if_good BeginBase fewer_lines (lines_of bytes) line
    (base_begins bytes done stored is) bad
BaseIsNoBadBase-holds bytes done stored line is (inr early) =
    early.not_whole (lines_in_order is.parts) is.said (is.parts, refl, is.are_parts)

pub BaseSaysOneThing-holds : BaseSaysOneThing
BaseSaysOneThing-holds bytes done other stored held p q =
    let a = IsReadBase-from_IsBase bytes done stored p in
    let b = IsReadBase-from_IsBase bytes other held q in
    let seen : a.seen ≡ b.seen = cc (a.read, b.read) in
    (cc (seen, a.done_is, b.done_is), cc (seen, a.stored_is, b.stored_is))

pub BadBaseIsBadAtOneLine-holds : BadBaseIsBadAtOneLine
BadBaseIsBadAtOneLine-holds bytes line other (inl p) (inl q) =
    IsFirstNotGood-is_unique BeginBase fewer_lines (lines_of bytes) line other p q
BadBaseIsBadAtOneLine-holds bytes line other (inl p) (inr q) =
    absurd (IsFirstNotGood-if_good BeginBase fewer_lines (lines_of bytes) line q.begins p)
BadBaseIsBadAtOneLine-holds bytes line other (inr p) (inl q) =
    absurd (IsFirstNotGood-if_good BeginBase fewer_lines (lines_of bytes) other p.begins q)
BadBaseIsBadAtOneLine-holds bytes line other (inr p) (inr q) = p.line_is ∙ sym q.line_is
