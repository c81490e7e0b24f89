-- Rows name lines in lists: the same lines in another order, and one more list.
use Rattle.std.proofs.Common.{◌≡◌, ℕ, ◌<◌, ◌≤◌, List, [], ◌∷◌, ◌++◌, map, All, Vec, length}
use Rattle.std.proofs.Common.{Contains, Some, slice_get, option_map, option_and_then, unwrap_or}
use Rattle.std.proofs.Common.{IsPermutation, refl, sym, ap, subst, ◌∙◌, arith}
use Rattle.epx_types.proofs.Common.{IsDistinct, IsSorted, Global, length-map, All-head, All-tail}
use Rattle.epx_types.proofs.Common.{All-weaker, IsPermutation-map, IsDistinct-IsPermutation}
use Rattle.epx_types.proofs.Common.{IsDistinct-from_AllPairs, slice_get_within, id_cmp, Instance}
use Rattle.epx_types.proofs.Common.{Placed, ids_of, IsCommittedBy, id_eq-Decides, id_eq-sym}
use Rattle.epx_types.proofs.Common.{max_instances}
use Rattle.epx_types.specs.declared.id.Id.{Id}
use Rattle.std.proofs.lemmas.List.Elements.{filter_map-append}
use Rattle.std.proofs.lemmas.List.Sorted.{All-permutation}
use Rattle.std.proofs.lemmas.Option.{option_and_then_some}
use Rattle.epx_types.proofs.lists.ListPositionLemmas.{slice_get-map}
use Rattle.epx_committed.specs.declared.ledger.FirstLines.{FirstLines}
use Rattle.epx_committed.specs.declared.rows.Row.{Row}
use Rattle.epx_committed.specs.declared.rows.TheConstants.{NO_LIST}
use Rattle.epx_committed.specs.InstanceCounts.{AreNamedBy, FewInstances, ManyInstances}
use Rattle.epx_committed.specs.between.Ledgers.{IsLedgerOf}
use Rattle.epx_committed.specs.MergedLines.{IsMerged}
use Rattle.epx_committed.specs.inner.FirstLines.{AreFirstLines, ledger_view}
use Rattle.epx_committed.specs.LineRows.{line_at, instances_at, firsts_at}
use Rattle.epx_committed.specs.LineRows.{HasList, IsLineRow, NamesItsLine, AreLineRows}
use Rattle.epx_committed.proofs.LedgerLemmas.{keys}
use Rattle.epx_committed.proofs.LedgerMapLemmas.{same_id}
use Rattle.epx_committed.proofs.LedgerCloseLemmas.{AreNamedBy-sorted, IsCommittedBy-sorted}
use Rattle.epx_committed.proofs.LedgerCloseLemmas.{Agree-from_ledger}
use Rattle.epx_committed.proofs.LineIndexLemmas.{slice_get-before_push}
use Rattle.epx_committed.proofs.SortedKeyLemmas.{IsRising-from_sorted}

abbrev pub Lists : Type 0
Lists = List (Vec Placed Global)

-- a default line, for a row whose indices are not in the lists
abbrev pub default_line : Placed
default_line = record {
  place = record { log = 0; line = 0 };
  instance = record { id = record { replica = 0; number = 0 }; seq = 0; deps = []; ops = [] };
}

-- the line that a row names, with the row's Id
abbrev pub under_row : Lists → Row → Id × Placed
under_row lists r = (r.id, unwrap_or (line_at lists r) default_line)

abbrev pub under_rows : Lists → List Row → List (Id × Placed)
under_rows lists rows = map (under_row lists) rows

pub keys-under_rows : (lists : Lists) (rows : List Row)
    → keys (under_rows lists rows) ≡ map (λ r. r.id) rows
keys-under_rows lists [] = refl
keys-under_rows lists (r ∷ rows) = ap (λ l. r.id ∷ l) (keys-under_rows lists rows)

-- ---- rows that name their lines

module _ (lists : Lists) where
  pub firsts_at-under_rows : (rows : List Row) → All (NamesItsLine lists) rows
      → firsts_at lists rows ≡ under_rows lists rows
  firsts_at-under_rows [] named = refl
  firsts_at-under_rows (r ∷ rows) named =
      let h = All-head (NamesItsLine lists) r rows named in
      let rest = firsts_at-under_rows rows (All-tail (NamesItsLine lists) r rows named) in
      rw h.1.0 (ap (λ l. (r.id, h.0) ∷ l) rest)

  pub instances_at-under_rows : (rows : List Row) → All (NamesItsLine lists) rows
      → instances_at lists rows ≡ map (λ e. e.1.instance) (under_rows lists rows)
  instances_at-under_rows [] named = refl
  instances_at-under_rows (r ∷ rows) named =
      let h = All-head (NamesItsLine lists) r rows named in
      let rest = instances_at-under_rows rows (All-tail (NamesItsLine lists) r rows named) in
      rw h.1.0 (ap (λ l. h.0.instance ∷ l) rest)

  pub ids_of-under_rows : (rows : List Row) → All (NamesItsLine lists) rows
      → ids_of (map (λ e. e.1.instance) (under_rows lists rows)) ≡ map (λ r. r.id) rows
  ids_of-under_rows [] named = refl
  ids_of-under_rows (r ∷ rows) named =
      let h = All-head (NamesItsLine lists) r rows named in
      let rest = ids_of-under_rows rows (All-tail (NamesItsLine lists) r rows named) in
      let first : (unwrap_or (line_at lists r) default_line).instance.id ≡ r.id =
      ap (λ o. (unwrap_or o default_line).instance.id) h.1.0 ∙ h.1.1 in
      λ i. first i ∷ rest i

  pub slice_get-instances_at : (rows : List Row) → All (NamesItsLine lists) rows
      → (k : ℕ) (r : Row) (p : Placed) → slice_get rows k ≡ Some r
      → line_at lists r ≡ Some p → slice_get (instances_at lists rows) k ≡ Some p.instance
  slice_get-instances_at rows named k r p at there =
      let row = slice_get-map (under_row lists) rows k r at in
      let instance = slice_get-map (λ (e : Id × Placed). e.1.instance) (under_rows lists rows) k
      (under_row lists r) row in
      ap (λ (l : List Instance). slice_get l k) (instances_at-under_rows rows named) ∙ instance
      ∙ ap (λ o. Some (unwrap_or o default_line).instance) there

-- ---- one more row, or one more list

-- the first line of one more row
pub firsts_at-push : (lists : Lists) (rows : List Row) (p : Placed) (r : Row) → IsLineRow lists p r
    → firsts_at lists (rows ++ r ∷ []) ≡ firsts_at lists rows ++ (p.instance.id, p) ∷ []
firsts_at-push lists rows p r is =
    let last : firsts_at lists (r ∷ []) ≡ (p.instance.id, p) ∷ [] =
    rw (is.0, is.1) refl in
    filter_map-append (λ q. option_map (λ l. (q.id, l)) (line_at lists q)) rows (r ∷ [])
    ∙ ap (λ l. firsts_at lists rows ++ l) last

-- where a row's indices are
pub line_at-from_list : (lists : Lists) (l : Vec Placed Global) (p : Placed) (r : Row)
    → slice_get lists r.list ≡ Some l → slice_get l.items r.at ≡ Some p
    → line_at lists r ≡ Some p
line_at-from_list lists l p r list at = ap (option_and_then (λ m. slice_get m.items r.at)) list ∙ at

-- the list that a row names, and the line in it
pub line_at-in_list : (lists : Lists) (p : Placed) (r : Row) → line_at lists r ≡ Some p
    → (l : Vec Placed Global) × (slice_get lists r.list ≡ Some l)
    × (slice_get l.items r.at ≡ Some p)
line_at-in_list lists p r named =
    option_and_then_some (λ (m : Vec Placed Global). slice_get m.items r.at)
    (slice_get lists r.list) p named (λ l list at. (l, list, at))

-- the index of a row's list is below any bound of their number
pub HasList-all : (lists : Lists) (rows : List Row) → length lists ≤ NO_LIST
    → All (NamesItsLine lists) rows → All HasList rows
HasList-all lists rows few named = All-weaker (NamesItsLine lists) HasList
    (λ r h. let l = line_at-in_list lists h.0 r h.1.0 in
    omega (arith, slice_get_within lists r.list l.0 l.1, few)) rows named

module _ (lists : Lists) (more : Vec Placed Global) where
  abbrev longer : Lists
  longer = lists ++ more ∷ []

  line_kept : (r : Row) (p : Placed) → line_at lists r ≡ Some p → line_at longer r ≡ Some p
  line_kept r p named =
      let l = line_at-in_list lists p r named in
      line_at-from_list longer l.0 p r (slice_get-before_push lists more r.list l.0 l.1) l.2

  -- rows keep their lines
  pub named-push : (rows : List Row) → All (NamesItsLine lists) rows
      → All (NamesItsLine longer) rows
  named-push rows named = All-weaker (NamesItsLine lists) (NamesItsLine longer)
      (λ r h. (h.0, (line_kept r h.0 h.1.0, h.1.1, h.1.2))) rows named

  pub firsts_at-list : (rows : List Row) → All (NamesItsLine lists) rows
      → firsts_at longer rows ≡ firsts_at lists rows
  firsts_at-list [] named = refl
  firsts_at-list (r ∷ rows) named =
      let h = All-head (NamesItsLine lists) r rows named in
      let rest = firsts_at-list rows (All-tail (NamesItsLine lists) r rows named) in
      rw (h.1.0, line_kept r h.0 h.1.0) (ap (λ l. (r.id, h.0) ∷ l) rest)

-- ---- rows in another order

-- rows of first lines, sorted by Id
pub record AreSortedRows (lists : Lists) (noted : FirstLines) (rows : List Row) : Type 0 where
  pub firsts : AreFirstLines lists noted
  pub moved : IsPermutation noted.rows.items rows
  pub sorted : IsSorted id_cmp (map (λ r. r.id) rows)

module _ (lists : Lists) (noted : FirstLines) (rows : List Row)
    (are : AreSortedRows lists noted rows) where
  abbrev old : List Row
  old = noted.rows.items

  under_moved : IsPermutation (firsts_at lists old) (under_rows lists rows)
  under_moved =
      subst (λ (l : List (Id × Placed)). IsPermutation l (under_rows lists rows))
      (sym (firsts_at-under_rows lists old are.firsts.named))
      (IsPermutation-map (under_row lists) old rows are.moved)

  named_moved : All (NamesItsLine lists) rows
  named_moved = All-permutation (NamesItsLine lists) old rows are.moved are.firsts.named

  as_many_names : length (map (λ r. r.id) rows) ≡ length rows
  as_many_names = length-map rows (λ (r : Row). r.id)

  distinct_rows : IsDistinct same_id (map (λ r. r.id) rows)
  distinct_rows = IsDistinct-IsPermutation same_id id_eq-sym (map (λ r. r.id) old)
      (map (λ r. r.id) rows) (IsPermutation-map (λ (r : Row). r.id) old rows are.moved)
      (IsDistinct-from_AllPairs {eq = same_id} id_eq-Decides (map (λ r. r.id) old)
      are.firsts.distinct)

  distinct_keys : IsDistinct same_id (keys (under_rows lists rows))
  distinct_keys = subst (IsDistinct same_id) (sym (keys-under_rows lists rows)) distinct_rows

  sorted_keys : IsSorted id_cmp (keys (under_rows lists rows))
  sorted_keys = subst (IsSorted id_cmp) (sym (keys-under_rows lists rows)) are.sorted

  pub AreLineRows-moved : AreLineRows lists rows
  AreLineRows-moved = record {
    named = named_moved;
    rising = IsRising-from_sorted (map (λ r. r.id) rows) are.sorted distinct_rows;
  }

  -- ---- what the rows say of all noted lines

  module _ (all : List Placed) (ledger : IsLedgerOf all (ledger_view lists noted)) where
    -- the Ids of the rows are the distinct Ids of the lines
    AreNamedBy-rows : AreNamedBy all (map (λ r. r.id) rows)
    AreNamedBy-rows = subst (AreNamedBy all) (keys-under_rows lists rows)
        (AreNamedBy-sorted all (ledger_view lists noted) ledger (under_rows lists rows) under_moved
        sorted_keys distinct_keys)

    pub ManyInstances-rows : max_instances < length rows → ManyInstances all
    ManyInstances-rows many =
        (map (λ r. r.id) rows, AreNamedBy-rows, omega (arith, as_many_names, many))

    pub FewInstances-rows : length rows ≤ max_instances → FewInstances all
    FewInstances-rows few =
        (map (λ r. r.id) rows, AreNamedBy-rows, omega (arith, as_many_names, few))

    -- few lines without a disagreement commit the instances that the rows name
    pub IsMerged-rows : length rows ≤ max_instances
        → ((x : Id) → ¬ Contains (keys noted.disagreements.entries) x)
        → IsMerged all (instances_at lists rows)
    IsMerged-rows few none =
        let agree = Agree-from_ledger all (ledger_view lists noted) ledger none in
        record {
          small = FewInstances-rows few;
          agree = agree;
          committed =
              subst (IsCommittedBy all) (sym (instances_at-under_rows lists rows named_moved))
              (IsCommittedBy-sorted all (ledger_view lists noted) ledger (under_rows lists rows)
              under_moved sorted_keys distinct_keys agree);
        }
