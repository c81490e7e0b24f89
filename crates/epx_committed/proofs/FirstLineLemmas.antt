-- The rows of first lines: one more row, a known one, and one more list.
use Rattle.std.proofs.Common.{◌≡◌, ◌≢◌, ℕ, ◌+◌, List, [], ◌∷◌, ◌++◌, map, All, AllPairs, Contains}
use Rattle.std.proofs.Common.{Some, IfSome, Vec, get_or, length, slice_get, unwrap_or, append-nil}
use Rattle.std.proofs.Common.{sym, ap, subst, subst₂, ◌∙◌, arith}
use Rattle.epx_types.proofs.Common.{Global, length-map, length-append, map-append, nil_from_length}
use Rattle.epx_types.proofs.Common.{All-contains, All-push, get_or_from_slice_get, Placed}
use Rattle.epx_types.proofs.Common.{slice_get-from_map, Contains-slice_get, Contains-map}
use Rattle.epx_types.specs.declared.id.Id.{Id}
use Rattle.epx_committed.specs.declared.ledger.Disagreement.{Disagreement}
use Rattle.epx_committed.specs.declared.ledger.FirstLines.{FirstLines}
use Rattle.epx_committed.specs.declared.rows.Row.{Row}
use Rattle.epx_committed.specs.between.Ledgers.{LedgerView, NotesLines}
use Rattle.epx_committed.specs.inner.FirstLines.{AreFirstLines, Extends, ledger_view}
use Rattle.epx_committed.specs.inner.LineIndexes.{IsIndexOf, mark_of}
use Rattle.epx_committed.specs.LineRows.{firsts_at, line_at, IsLineRow, NamesItsLine}
use Rattle.epx_committed.proofs.LedgerLemmas.{keys, NotesLines-new}
use Rattle.epx_committed.proofs.LineIndexLemmas.{slice_get-at_mark, Contains-no_mark}
use Rattle.epx_committed.proofs.LineIndexLemmas.{AllPairs-distinct_push, IsIndexOf-push}
use Rattle.epx_committed.proofs.LineIndexLemmas.{IsIndexOf-same, slice_get-push}
use Rattle.epx_committed.proofs.LineRowLemmas.{Lists, default_line, keys-under_rows}
use Rattle.epx_committed.proofs.LineRowLemmas.{firsts_at-under_rows}
use Rattle.epx_committed.proofs.LineRowLemmas.{under_row, firsts_at-list, firsts_at-push}
use Rattle.epx_committed.proofs.LineRowLemmas.{named-push}

abbrev names : List Row → List Id
names rows = map (λ r. r.id) rows

module _ (lists : Lists) (old : FirstLines) (h : AreFirstLines lists old) where
  abbrev rows : List Row
  rows = old.rows.items

  -- first lines stay right where the rows are those of before and each Id keeps its mark
  pub AreFirstLines-same : (new : FirstLines) → new.rows.items ≡ rows
      → ((x : Id) → mark_of new.index x ≡ mark_of old.index x) → AreFirstLines lists new
  AreFirstLines-same new same marks = record {
    named = subst (All (NamesItsLine lists)) (sym same) h.named;
    found = subst (λ l. IsIndexOf (names l) new.index) (sym same)
        (IsIndexOf-same (names rows) old.index new.index h.found marks);
    distinct = subst (λ l. AllPairs (λ (x y : Id). x ≢ y) (names l)) (sym same) h.distinct;
  }

  -- one more list
  pub AreFirstLines-list : (more : Vec Placed Global) → AreFirstLines (lists ++ more ∷ []) old
  AreFirstLines-list more = record {
    named = named-push lists more rows h.named;
    found = h.found;
    distinct = h.distinct;
  }

  -- ---- the row of a known Id

  -- the row that is read at the position of an Id
  pub Contains-at_mark : (x : Id) (k : ℕ) (r : Row) → mark_of old.index x ≡ k + 1
      → r ≡ get_or rows k r
      → Contains rows r × (r.id ≡ x)
  Contains-at_mark x k r mark is =
      let q = slice_get-from_map (λ (s : Row). s.id) rows k x
      (slice_get-at_mark (names rows) old.index x k h.found mark) in
      let same : q.0 ≡ r = sym (is ∙ get_or_from_slice_get rows k q.0 r q.1) in (
        subst (Contains rows) same (Contains-slice_get rows k q.0 q.1),
        ap (λ (s : Row). s.id) (sym same) ∙ q.2,
      )

  pub NamesItsLine-contains : (r : Row) → Contains rows r → NamesItsLine lists r
  NamesItsLine-contains r has = All-contains (NamesItsLine lists) rows r h.named has

  -- its line is the first line of the Id
  pub Contains-firsts_at : (r : Row) (x : Id) (p : Placed) → Contains rows r → r.id ≡ x
      → line_at lists r ≡ Some p → Contains (firsts_at lists rows) (x, p)
  Contains-firsts_at r x p has named is =
      let first : under_row lists r ≡ (x, p) = λ i. (named i, unwrap_or (is i) default_line) in
      subst (λ l. Contains l (x, p)) (sym (firsts_at-under_rows lists rows h.named))
      (subst (Contains (map (under_row lists) rows)) first
      (Contains-map (under_row lists) rows r has))

  -- ---- the row of a new Id

  module _ (p : Placed) (r : Row) (is : IsLineRow lists p r) (new : mark_of old.index r.id ≡ 0)
    where
      none : ¬ Contains (names rows) r.id
      none = Contains-no_mark (names rows) old.index r.id h.found new

      pub AreFirstLines-push : (after : FirstLines) → after.rows.items ≡ rows ++ r ∷ []
          → mark_of after.index r.id ≡ length rows + 1
          → ((x : Id) → x ≢ r.id → mark_of after.index x ≡ mark_of old.index x)
          → AreFirstLines lists after
      AreFirstLines-push after items here apart =
          let longer : names after.rows.items ≡ names rows ++ r.id ∷ [] =
          ap names items ∙ map-append (λ (q : Row). q.id) rows (r ∷ []) in
          let mark : mark_of after.index r.id ≡ length (names rows) + 1 =
          here ∙ ap (λ n. n + 1) (sym (length-map rows (λ (q : Row). q.id))) in
          record {
            named = subst (All (NamesItsLine lists)) (sym items)
                (All-push (NamesItsLine lists) rows r h.named (p, is));
            found = subst (λ (l : List Id). IsIndexOf l after.index) (sym longer)
                (IsIndexOf-push (names rows) r.id old.index after.index h.found mark apart);
            distinct = subst (AllPairs (λ (x y : Id). x ≢ y)) (sym longer)
                (AllPairs-distinct_push (names rows) r.id h.distinct none);
          }

      -- its line is noted
      pub NotesLines-push : (after : List Row) (disagreements : List (Id × Disagreement))
          → after ≡ rows ++ r ∷ []
          → NotesLines (p ∷ [])
          (record { firsts = firsts_at lists rows; disagreements = disagreements })
          (record { firsts = firsts_at lists after; disagreements = disagreements })
      NotesLines-push after disagreements items =
          let noted : LedgerView =
          record { firsts = firsts_at lists rows; disagreements = disagreements } in
          let end = ap (firsts_at lists) items ∙ firsts_at-push lists rows p r is in
          let ids : names rows ≡ keys (firsts_at lists rows) =
          sym (ap keys (firsts_at-under_rows lists rows h.named) ∙ keys-under_rows lists rows) in
          subst (λ (firsts : List (Id × Placed)). NotesLines (p ∷ []) noted
          (record { firsts = firsts; disagreements = disagreements })) (sym end)
          (NotesLines-new noted p
          (subst₂ (λ (l : List Id) (x : Id). ¬ Contains l x) ids (sym is.1) none))

-- ---- one more list

same_rows : (old new : List Row) → Extends old new → length new ≡ length old → new ≡ old
same_rows old new h as_many =
    let none : h.0 ≡ [] = nil_from_length h.0
    (omega (arith, length-append old h.0, ap length h.1, as_many)) in
    h.1 ∙ ap (λ l. old ++ l) none ∙ append-nil old

-- without new rows, the old lists are enough
pub AreFirstLines-without : (lists all : Lists) (old new : FirstLines) → AreFirstLines lists old
    → AreFirstLines all new → Extends old.rows.items new.rows.items
    → length new.rows.items ≡ length old.rows.items → AreFirstLines lists new
AreFirstLines-without lists all old new h are rows as_many = record {
  named = subst (All (NamesItsLine lists))
      (sym (same_rows old.rows.items new.rows.items rows as_many)) h.named;
  found = are.found;
  distinct = are.distinct;
}

module _ (lists : Lists) (old new : FirstLines) (h : AreFirstLines lists old)
    (more : Vec Placed Global) (all : Lists) (is : all ≡ lists ++ more ∷ [])
    (list : ℕ) (at : list ≡ length lists)
    (noted : IfSome (slice_get all list)
    (λ l. NotesLines l.items (ledger_view all old) (ledger_view all new))) where
  -- the lines of the list are noted
  pub NotesLines-list : NotesLines more.items (ledger_view lists old) (ledger_view all new)
  NotesLines-list =
      let last : slice_get all list ≡ Some more =
      ap (slice_get all) at ∙ ap (λ l. slice_get l (length lists)) is
      ∙ slice_get-push lists more in
      let step = subst (λ o. IfSome o
      (λ l. NotesLines l.items (ledger_view all old) (ledger_view all new))) last noted in
      let same = ap (λ l. firsts_at l old.rows.items) is
      ∙ firsts_at-list lists more old.rows.items h.named in
      subst (λ firsts. NotesLines more.items
      (record { firsts = firsts; disagreements = old.disagreements.entries })
      (ledger_view all new)) same step

  -- the list is not kept if it has no new row
  module _ (are : AreFirstLines all new) (rows : Extends old.rows.items new.rows.items)
      (as_many : length new.rows.items ≡ length old.rows.items) where
    pub NotesLines-without : NotesLines more.items (ledger_view lists old) (ledger_view lists new)
    NotesLines-without =
        let named = (AreFirstLines-without lists all old new h are rows as_many).named in
        let same = ap (λ l. firsts_at l new.rows.items) is
        ∙ firsts_at-list lists more new.rows.items named in
        subst (λ firsts. NotesLines more.items (ledger_view lists old)
        (record { firsts = firsts; disagreements = new.disagreements.entries })) same
        NotesLines-list
