-- The lines that are not redundant have the first bad line and the ledger of all lines.
use Rattle.std.proofs.Common.{◌≡◌, ◌≢◌, inl, inr, List, [], ◌∷◌, ◌++◌, Contains, Result, Ok, Err}
use Rattle.std.proofs.Common.{refl, sym, ap, subst, ◌∙◌, append_assoc, append-nil}
use Rattle.epx_types.proofs.Common.{Contains-append_left, Contains-append_cases}
use Rattle.epx_types.proofs.Common.{Contains-append_right, Placed, Instance, Contains-nil}
use Rattle.epx_types.proofs.Common.{Contains-head, Contains-cons_cases}
use Rattle.epx_types.specs.declared.fault.Fault.{Fault}
use Rattle.epx_types.specs.declared.fault.Fault.TheVariants.{TooManyLogs, LogTooLong, BadLine}
use Rattle.epx_types.specs.declared.fault.Fault.TheVariants.{TooManyInstances, Disagree, Read}
use Rattle.epx_types.specs.declared.fault.Fault.TheVariants.{BadBase, Memory, Write}
use Rattle.epx_types.specs.declared.fault.Why.{Why}
use Rattle.epx_types.specs.declared.place.Place.{Place}
use Rattle.epx_lines.specs.declared.Line.{Line}
use Rattle.epx_lines.specs.declared.Line.TheVariants.{Blank, Entry}
use Rattle.epx_merge.specs.LogLines.{MeaningAt, placed_at, placed_among, BadLineAt, bad_lines_at}
use Rattle.epx_merge.specs.LogLines.{bad_lines_among}
use Rattle.epx_committed.specs.between.Ledgers.{LedgerView, IsFirstWhere, IsLedgerOf}
use Rattle.epx_merge.specs.between.ReadFaults.{IsReadFault}
use Rattle.epx_merge.specs.between.RedundantLines.{IsRedundant, DropsRedundant}
use Rattle.epx_merge.proofs.ReadFaultLemmas.{placed_among-append, bad_lines_among-append}
use Rattle.epx_committed.proofs.LedgerLemmas.{keys}

-- ---- list by list

pub DropsRedundant-append : (xs ys a b c : List MeaningAt) → DropsRedundant xs a b
    → DropsRedundant ys b c → DropsRedundant (xs ++ ys) a c
DropsRedundant-append [] ys a b c h k = subst (λ l. DropsRedundant ys l c) (sym h) k
DropsRedundant-append (x ∷ xs) ys a b c (inl h) k =
    inl (DropsRedundant-append xs ys (a ++ x ∷ []) b c h k)
DropsRedundant-append (x ∷ xs) ys a b c (inr h) k =
    inr (h.0, DropsRedundant-append xs ys a b c h.1 k)

-- ---- one more line, whose instance an earlier line has

module _ (P : Placed → Type 0) (q : Placed) where
  -- a line for which the fact does not hold
  first_past : (a b : List Placed) (p : Placed) → ¬ P q → IsFirstWhere P (a ++ b) p
      → IsFirstWhere P (a ++ q ∷ b) p
  first_past [] b p fails h = inr (fails, h)
  first_past (x ∷ a) b p fails (inl h) = inl h
  first_past (x ∷ a) b p fails (inr h) = inr (h.0, first_past a b p fails h.1)

  -- a line for which the fact holds only if it holds for an earlier one
  first_repeated : (a b : List Placed) (p e : Placed) → Contains a e → (P q → P e)
      → IsFirstWhere P (a ++ b) p → IsFirstWhere P (a ++ q ∷ b) p
  first_repeated [] b p e has back h = absurd (Contains-nil e has)
  first_repeated (x ∷ a) b p e has back (inl h) = inl h
  first_repeated (x ∷ a) b p e has back (inr h) =
      inr (
        h.0,
        elim (Contains-cons_cases x a e has) [
          | inl same ↦ first_past a b p (λ holds. h.0 (subst P (sym same) (back holds))) h.1
          | inr later ↦ first_repeated a b p e later back h.1
        ],
      )

module _ (a b : List Placed) (e q : Placed) (has : Contains a e) (same : e.instance ≡ q.instance)
    (noted : LedgerView) (h : IsLedgerOf (a ++ b) noted) where
  from_equal : (P : Instance → Type 0) → P q.instance → P e.instance
  from_equal P holds = subst P (sym same) holds

  first_kept : (P : Instance → Type 0) (p : Placed)
      → IsFirstWhere (λ (r : Placed). P r.instance) (a ++ b) p
      → IsFirstWhere (λ (r : Placed). P r.instance) (a ++ q ∷ b) p
  first_kept P p first = first_repeated (λ (r : Placed). P r.instance) q a b p e has (from_equal P)
      first

  -- it is one of the others, or the new one
  others : (p : Placed) → Contains (a ++ q ∷ b) p
      → (r : Placed) × Contains (a ++ b) r × (r.instance ≡ p.instance)
  others p in_p =
      elim (Contains-append_cases a (q ∷ b) p in_p) [
        | inl before ↦ (p, Contains-append_left a b p before, refl)
        | inr after ↦ elim (Contains-cons_cases q b p after) [
          | inl here ↦ (
            e,
            Contains-append_left a b e has,
            same ∙ ap (λ (r : Placed). r.instance) here,
          )
          | inr later ↦ (p, Contains-append_right a b p later, refl)
        ]
      ]

  ledger_repeated : IsLedgerOf (a ++ q ∷ b) noted
  ledger_repeated = record {
    firsts = λ x p in_p. first_kept (λ i. i.id ≡ x) p (h.firsts x p in_p);
    whole = λ p in_p.
        let other = others p in_p in
        subst (λ (i : Instance). Contains (keys noted.firsts) i.id) other.2
        (h.whole other.0 other.1);
    disagreements = λ x disagreement in_disagreement.
        let c = h.disagreements x disagreement in_disagreement in
        record {
          first = c.first;
          second = c.second;
          opens = first_kept (λ i. i.id ≡ x) c.first c.opens;
          differs = first_kept (λ i. (c.first.instance.id ≡ i.id) × (c.first.instance ≢ i))
              c.second c.differs;
          first_place = c.first_place;
          second_place = c.second_place;
        };
    alike = λ x p in_p apart r in_r named.
        let other = others r in_r in
        h.alike x p in_p apart other.0 other.1 (ap (λ (i : Instance). i.id) other.2 ∙ named)
        ∙ other.2;
  }

-- ---- what the lines that are not redundant say of all lines

-- some lines have the first bad line and the ledger of all lines
pub record SameOutcome (some all : List MeaningAt) : Type 0 where
  pub fault : (f : Fault) → IsReadFault (bad_lines_among some) f
      → IsReadFault (bad_lines_among all) f
  pub clean : bad_lines_among some ≡ [] → bad_lines_among all ≡ []
  pub ledger : (noted : LedgerView) → IsLedgerOf (placed_among some) noted
      → IsLedgerOf (placed_among all) noted

SameOutcome-same : (some all : List MeaningAt) → some ≡ all → SameOutcome some all
SameOutcome-same some all same = record {
  fault = λ f h. subst (λ l. IsReadFault (bad_lines_among l) f) same h;
  clean = λ h. subst (λ l. bad_lines_among l ≡ []) same h;
  ledger = λ noted h. subst (λ l. IsLedgerOf (placed_among l) noted) same h;
}

SameOutcome-trans : (some more all : List MeaningAt) → SameOutcome some more
    → SameOutcome more all → SameOutcome some all
SameOutcome-trans some more all h k = record {
  fault = λ f is. k.fault f (h.fault f is);
  clean = λ none. k.clean (h.clean none);
  ledger = λ noted is. k.ledger noted (h.ledger noted is);
}

-- a bad line stays the first if others follow it
fault_ahead : (a b c : List BadLineAt) (x : BadLineAt) → Contains a x → (f : Fault)
    → IsReadFault (a ++ b) f → IsReadFault (a ++ c) f
fault_ahead [] b c x has f h = absurd (Contains-nil x has)
fault_ahead (y ∷ a) b c x has Memory h = h
fault_ahead (y ∷ a) b c x has TooManyLogs h = h
fault_ahead (y ∷ a) b c x has (LogTooLong log) h = h
fault_ahead (y ∷ a) b c x has (BadLine place why) h =
    let first : y ≡ record { place = place; why = why } = cc h.1 in
    (a ++ c, ap (λ z. z ∷ (a ++ c)) first)
fault_ahead (y ∷ a) b c x has TooManyInstances h = h
fault_ahead (y ∷ a) b c x has (Disagree id first second) h = h
fault_ahead (y ∷ a) b c x has (Read log) h = h
fault_ahead (y ∷ a) b c x has Write h = h
fault_ahead (y ∷ a) b c x has (BadBase line) h = h

not_clean : (a b : List BadLineAt) (x : BadLineAt) → Contains a x → ¬ (a ++ b ≡ [])
not_clean [] b x has none = Contains-nil x has
not_clean (y ∷ a) b x has none = cc none

-- the instance of a line is among those of its list
placed_among_all : (lines : List MeaningAt) (l : MeaningAt) (p : Placed) → Contains lines l
    → Contains (placed_at l.place l.meaning) p → Contains (placed_among lines) p
placed_among_all [] l p has h = absurd (Contains-nil l has)
placed_among_all (k ∷ lines) l p has h =
    elim (Contains-cons_cases k lines l has) [
      | inl same ↦ Contains-append_left (placed_at k.place k.meaning) (placed_among lines) p
          (subst (λ (m : MeaningAt). Contains (placed_at m.place m.meaning) p) (sym same) h)
      | inr later ↦ Contains-append_right (placed_at k.place k.meaning) (placed_among lines) p
          (placed_among_all lines l p later h)
    ]

bad_line_among_all : (lines : List MeaningAt) (l : MeaningAt) (x : BadLineAt) → Contains lines l
    → Contains (bad_lines_at l.place l.meaning) x → Contains (bad_lines_among lines) x
bad_line_among_all [] l x has h = absurd (Contains-nil l has)
bad_line_among_all (k ∷ lines) l x has h =
    elim (Contains-cons_cases k lines l has) [
      | inl same ↦ Contains-append_left (bad_lines_at k.place k.meaning) (bad_lines_among lines) x
          (subst (λ (m : MeaningAt). Contains (bad_lines_at m.place m.meaning) x) (sym same) h)
      | inr later ↦ Contains-append_right (bad_lines_at k.place k.meaning) (bad_lines_among lines)
          x (bad_line_among_all lines l x later h)
    ]

-- a line that is blank or repeats an earlier one
module _ (before after : List MeaningAt) (place : Place) where
  abbrev line_of : Result Line Why → MeaningAt
  line_of meaning = record { place = place; meaning = meaning }

  placed_with : (meaning : Result Line Why) → placed_among (before ++ line_of meaning ∷ after)
      ≡ placed_among before ++ (placed_at place meaning ++ placed_among after)
  placed_with meaning = placed_among-append before (line_of meaning ∷ after)

  bad_lines_with : (meaning : Result Line Why)
      → bad_lines_among (before ++ line_of meaning ∷ after)
      ≡ bad_lines_among before ++ (bad_lines_at place meaning ++ bad_lines_among after)
  bad_lines_with meaning = bad_lines_among-append before (line_of meaning ∷ after)

  SameOutcome-redundant : (meaning : Result Line Why) → IsRedundant before meaning
      → SameOutcome (before ++ after) (before ++ line_of meaning ∷ after)
  SameOutcome-redundant (Ok Blank) redundant =
      let bad_lines = bad_lines_among-append before after ∙ sym (bad_lines_with (Ok Blank)) in
      let placed = placed_among-append before after ∙ sym (placed_with (Ok Blank)) in
      record {
        fault = λ f h. subst (λ l. IsReadFault l f) bad_lines h;
        clean = λ none. sym bad_lines ∙ none;
        ledger = λ noted h. subst (λ l. IsLedgerOf l noted) placed h;
      }
  SameOutcome-redundant (Ok (Entry e)) (inl blank) = absurd (cc blank)
  SameOutcome-redundant (Ok (Entry e)) (inr earlier) =
      let bad_lines = bad_lines_among-append before after ∙ sym (bad_lines_with (Ok (Entry e))) in
      let line = earlier.0 in
      let first : Placed = record { place = line.place; instance = e } in
      let more : Placed = record { place = place; instance = e } in
      let has = placed_among_all before line first earlier.1
      (subst (λ m. Contains (placed_at line.place m) first) (sym earlier.2)
      (Contains-head first [])) in
      record {
        fault = λ f h. subst (λ l. IsReadFault l f) bad_lines h;
        clean = λ none. sym bad_lines ∙ none;
        ledger = λ noted h.
            subst (λ l. IsLedgerOf l noted) (sym (placed_with (Ok (Entry e))))
            (ledger_repeated (placed_among before) (placed_among after) first more has refl noted
            (subst (λ l. IsLedgerOf l noted) (placed_among-append before after) h));
      }
  SameOutcome-redundant (Err why) (inl blank) = absurd (cc blank)
  SameOutcome-redundant (Err why) (inr earlier) =
      let placed = placed_among-append before after ∙ sym (placed_with (Err why)) in
      let line = earlier.0 in
      let first : BadLineAt = record { place = line.place; why = why } in
      let has = bad_line_among_all before line first earlier.1
      (subst (λ m. Contains (bad_lines_at line.place m) first) (sym earlier.2)
      (Contains-head first [])) in
      record {
        fault = λ f h.
            subst (λ l. IsReadFault l f) (sym (bad_lines_with (Err why)))
            (fault_ahead (bad_lines_among before) (bad_lines_among after) _ first has f
            (subst (λ l. IsReadFault l f) (bad_lines_among-append before after) h));
        clean = λ none. absurd (not_clean (bad_lines_among before) (bad_lines_among after) first
            has (sym (bad_lines_among-append before after) ∙ none));
        ledger = λ noted h. subst (λ l. IsLedgerOf l noted) placed h;
      }

pub SameOutcome-kept : (lines old new : List MeaningAt) → DropsRedundant lines old new
    → SameOutcome new (old ++ lines)
SameOutcome-kept [] old new h = SameOutcome-same new (old ++ []) (sym h ∙ sym (append-nil old))
SameOutcome-kept (l ∷ lines) old new (inl h) =
    subst (SameOutcome new) (append_assoc old (l ∷ []) lines)
    (SameOutcome-kept lines (old ++ l ∷ []) new h)
SameOutcome-kept (l ∷ lines) old new (inr h) =
    SameOutcome-trans new (old ++ lines) (old ++ l ∷ lines) (SameOutcome-kept lines old new h.1)
    (SameOutcome-redundant old lines l.place l.meaning h.0)
