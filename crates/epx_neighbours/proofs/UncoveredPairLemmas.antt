-- The rows of uncovered neighbours are the uncovered pairs of a map.
use Rattle.std.proofs.Common.{◌≡◌, ◌↔◌, inl, inr, ℕ, ◌<◌, Bool, true, false, List, [], length}
use Rattle.std.proofs.Common.{get_or, map, Contains, AllPairs, Some, slice_get, IsTrue, refl, sym}
use Rattle.std.proofs.Common.{ap}
use Rattle.std.proofs.Common.{subst, subst₂, ◌∙◌, Less, Equal, Greater, Ordering, is_lt, arith}
use Rattle.std.specs.Ordering.{nat_cmp, ordering_then}
use Rattle.std.specs.Cmp.{nat_cmp_is}
use Rattle.epx_types.specs.declared.id.Id.{Id}
use Rattle.epx_types.specs.declared.op.Op.{Op}
use Rattle.epx_types.specs.Keys.{KeyBelow}
use Rattle.epx_types.proofs.Common.{Instance, Ranked, IsExecutionOrder, ranked_ids, commands_in}
use Rattle.epx_types.proofs.Common.{Reaches, Reaches-cases, IsExecutionOrder-IsLawful, cases_lt}
use Rattle.epx_types.proofs.Common.{AllPairs-slice_get, AllPairs-from_slice_get, cases_Bool}
use Rattle.epx_types.proofs.Common.{Contains-slice_get, slice_get-from_Contains, slice_get_within}
use Rattle.epx_types.proofs.Common.{slice_get-from_map, Contains-map, Contains-from_map}
use Rattle.epx_types.proofs.Common.{length-map}
use Rattle.epx_types.proofs.Common.{get_or_from_slice_get, false≢true, id_cmp}
use Rattle.epx_types.proofs.Common.{key_cmp, All, All-weaker, All-contains_itself}
use Rattle.epx_types.proofs.lists.ListPositionLemmas.{slice_get-map}
use Rattle.epx_neighbours.specs.Neighbours.{AreNeighbours, TouchesAt, WritesAt}
use Rattle.epx_neighbours.specs.UncoveredNeighbours.{NeighbourPair, PairBelow, IsUncoveredPair}
use Rattle.epx_neighbours.specs.UncoveredNeighbours.{AreUncoveredPairs}
use Rattle.epx_neighbours.specs.declared.key_touch.KeyTouch.{KeyTouch}
use Rattle.epx_neighbours.specs.declared.neighbours.Neighbours.{Neighbours}
use Rattle.epx_neighbours.specs.declared.uncovered_row.UncoveredRow.{UncoveredRow}
use Rattle.epx_neighbours.specs.inner.KeyNumbers.{keys_in, number_of}
use Rattle.epx_neighbours.specs.inner.KeyTouches.{AreTouches}
use Rattle.epx_neighbours.specs.inner.NumberedPairs.{AreNumbered, HasTouch, HasWrite}
use Rattle.epx_neighbours.specs.inner.UncoveredRows.{RowBelow, AreRows, HavePositionsWithin}
use Rattle.epx_neighbours.specs.inner.UncoveredRows.{pair_of}
use Rattle.epx_neighbours.proofs.KeyNumberLemmas.{slice_get-number_of}
use Rattle.epx_neighbours.proofs.TouchLemmas.{AllPairs-keys_in, HasWrite-iff_writes_at}
use Rattle.epx_neighbours.proofs.TouchLemmas.{HasTouch-iff_touches_at}
use Rattle.epx_neighbours.proofs.TouchLemmas.{HasTouch-within, keys_in-touched}
use Rattle.epx_audit.specs.between.RelatedPairs.{AreLaterFirst, AreRelatedMarks}

-- ---- in an execution order

module _ (m : List Instance) (order : List Ranked) (orders : IsExecutionOrder m order) where
  -- an instance that reaches a later one is reached by it
  pub Reaches-back : (p q : ℕ) (x y : Id) → p < q → slice_get (ranked_ids order) p ≡ Some x
      → slice_get (ranked_ids order) q ≡ Some y → Reaches m x y → Reaches m y x
  Reaches-back p q x y earlier at_p at_q there = elim (Reaches-cases m y x) [
    | inl back ↦ back
    | inr none ↦
        let lawful = IsExecutionOrder-IsLawful m order orders in
        let before = lawful.after_reached x y (Contains-slice_get (ranked_ids order) p x at_p)
        there none in
        absurd (elim (cases_lt before.0 p) [
          | inl l ↦ AllPairs-slice_get (λ v w. ¬ (v ≡ w)) (ranked_ids order) lawful.once before.0 q
              y y (omega arith) before.3 at_q refl
          | inr up ↦ AllPairs-slice_get (λ v w. ¬ (v ≡ w)) (ranked_ids order) lawful.once p before.1
              x x (omega (arith, up, before.2)) at_p before.4 refl
        ])
  ]

-- ---- neighbours by the numbers of their keys

module _ (commands : List (List Op)) (touches : List KeyTouch)
    (are : AreTouches (keys_in commands) commands touches) where
  pub AreNumbered-iff_neighbours : (x : Neighbours) (k : List ℕ)
      → slice_get (keys_in commands) x.key ≡ Some k
      → AreNumbered touches x ↔ AreNeighbours commands x.before x.after k
  AreNumbered-iff_neighbours x k at = (
    λ n. record {
      rises = n.rises;
      conflict = elim n.conflict [
        | inl (a, b) ↦ inl ((write x.before).0 a, (touch x.after).0 b)
        | inr (a, b) ↦ inr ((touch x.before).0 a, (write x.after).0 b)
      ];
      next = λ r after before h. n.next r after before ((write r).1 h);
    },
    λ n. record {
      rises = n.rises;
      conflict = elim n.conflict [
        | inl (a, b) ↦ inl ((write x.before).1 a, (touch x.after).1 b)
        | inr (a, b) ↦ inr ((touch x.before).1 a, (write x.after).1 b)
      ];
      next = λ r after before h. n.next r after before ((write r).0 h);
    },
  ) where
    write : (p : ℕ) → HasWrite touches p x.key ↔ WritesAt commands p k
    write = HasWrite-iff_writes_at commands touches are x.key k at

    touch : (p : ℕ) → HasTouch touches p x.key ↔ TouchesAt commands p k
    touch = HasTouch-iff_touches_at commands touches are x.key k at

  pub HasTouch-first : (x : Neighbours) → AreNumbered touches x → HasTouch touches x.before x.key
  HasTouch-first x n = elim n.conflict [ inl c ↦ (true, c.0) | inr c ↦ c.0 ]

  pub HasTouch-second : (x : Neighbours) → AreNumbered touches x → HasTouch touches x.after x.key
  HasTouch-second x n = elim n.conflict [ inl c ↦ c.1 | inr c ↦ (true, c.1) ]

  -- the positions of neighbours are in the list, and their key has its number
  pub AreNumbered-within : (x : Neighbours) → AreNumbered touches x
      → (x.before < length commands) × (x.after < length commands)
      × ((k : List ℕ) × (slice_get (keys_in commands) x.key ≡ Some k))
  AreNumbered-within x n =
      let first = HasTouch-within commands touches are x.before x.key (HasTouch-first x n) in
      let second = HasTouch-within commands touches are x.after x.key (HasTouch-second x n) in
      (first.0, second.0, first.1)

-- ---- the order of rows is that of pairs

lower_or_same : (r : Ordering) (s t : Ordering) → (s ≡ Less → t ≡ Less)
    → is_lt (ordering_then r s) ≡ true → is_lt (ordering_then r t) ≡ true
lower_or_same Less s t on e = refl
lower_or_same Equal Less t on e = ap is_lt (on refl)
lower_or_same Equal Equal t on e = absurd (cc e)
lower_or_same Equal Greater t on e = absurd (cc e)
lower_or_same Greater s t on e = absurd (cc e)

less_of : (r : Ordering) → is_lt r ≡ true → r ≡ Less
less_of Less e = refl
less_of Equal e = absurd (cc e)
less_of Greater e = absurd (cc e)

module _ (keys : List (List ℕ)) (rising : AllPairs KeyBelow keys) where
  pair_below : (a b : UncoveredRow) → a.key < length keys → b.key < length keys → RowBelow a b
      → PairBelow (pair_of keys a) (pair_of keys b)
  pair_below a b l k lower =
      lower_or_same (id_cmp a.before b.before)
      (ordering_then (id_cmp a.after b.after) (nat_cmp a.key b.key))
      (ordering_then (id_cmp a.after b.after)
      (key_cmp (get_or keys a.key []) (get_or keys b.key [])))
      (λ e. less_of _ (lower_or_same (id_cmp a.after b.after) (nat_cmp a.key b.key)
      (key_cmp (get_or keys a.key []) (get_or keys b.key []))
      (λ f. less_of _ (rising a.key b.key [] (below f) k)) (ap is_lt e))) lower
    where
      below : nat_cmp a.key b.key ≡ Less → a.key < b.key
      below f = elim (cases_lt a.key b.key) [
        | inl less ↦ less
        | inr upto ↦ elim (cases_lt b.key a.key) [
          | inl more ↦
              let greater : Greater ≡ nat_cmp a.key b.key =
              nat_cmp_is a.key b.key Greater more in
              absurd (cc (greater, f))
          | inr level ↦
              let same : a.key ≡ b.key = omega arith in
              let equal : Equal ≡ nat_cmp a.key b.key = nat_cmp_is a.key b.key Equal same in
              absurd (cc (equal, f))
        ]
      ]

  pub AllPairs-pair_of : (rows : List UncoveredRow)
      → ((r : UncoveredRow) → Contains rows r → r.key < length keys) → AllPairs RowBelow rows
      → AllPairs PairBelow (map (pair_of keys) rows)
  AllPairs-pair_of rows within rise =
      AllPairs-from_slice_get PairBelow (map (pair_of keys) rows) (λ i j x y l p q.
      let a = slice_get-from_map (pair_of keys) rows i x p in
      let b = slice_get-from_map (pair_of keys) rows j y q in
      subst₂ PairBelow a.2 b.2 (pair_below a.0 b.0
      (within a.0 (Contains-slice_get rows i a.0 a.1))
      (within b.0 (Contains-slice_get rows j b.0 b.1))
      (AllPairs-slice_get RowBelow rows rise i j a.0 b.0 l a.1 b.1)))

-- ---- the rows of the neighbours that are not related

module _ (m : List Instance) (order : List Ranked) (orders : IsExecutionOrder m order)
    (touches : List KeyTouch)
    (are : AreTouches (keys_in (commands_in m (ranked_ids order)))
    (commands_in m (ranked_ids order)) touches) (found : List Neighbours)
    (exact : (x : Neighbours) → Contains found x ↔ AreNumbered touches x) where
  abbrev ids : List Id
  ids = ranked_ids order

  abbrev commands : List (List Op)
  commands = commands_in m ids

  abbrev keys : List (List ℕ)
  keys = keys_in commands

  same_length : length commands ≡ length ids
  same_length = length-map ids _

  found_in : (x : Neighbours) → Contains found x
      → (x.before < length ids) × (x.after < length ids)
  found_in x h =
      let n = AreNumbered-within commands touches are x ((exact x).0 h) in
      (omega (arith, n.0, same_length), omega (arith, n.1, same_length))

  pub HavePositionsWithin-found : HavePositionsWithin (length ids) found
  HavePositionsWithin-found =
      All-weaker (Contains found) _ found_in found (All-contains_itself found)

  -- the later position of each two neighbours comes first
  pair_within : (pair : ℕ × ℕ) → Contains (map (λ x. (x.after, x.before)) found) pair
      → (pair.1 < pair.0) × (pair.0 < length order)
  pair_within pair h =
      let x = Contains-from_map (λ (x : Neighbours). (x.after, x.before)) found pair h in
      let n = (exact x.0).0 x.1 in
      let second = (found_in x.0 x.1).1 in
      let l = length-map order (λ (r : Ranked). r.id) in
      subst (λ (pair : ℕ × ℕ). (pair.1 < pair.0) × (pair.0 < length order)) x.2
      (n.rises, omega (arith, second, l))

  pub AreLaterFirst-found : AreLaterFirst (length order) (map (λ x. (x.after, x.before)) found)
  AreLaterFirst-found = All-weaker (Contains (map (λ x. (x.after, x.before)) found)) _ pair_within _
      (All-contains_itself (map (λ x. (x.after, x.before)) found))

  module _ (marks : List Bool)
      (related : AreRelatedMarks m order (map (λ x. (x.after, x.before)) found) marks) where
    -- the mark of two neighbours
    mark_of : (i : ℕ) (x : Neighbours) (before after : Id) → slice_get found i ≡ Some x
        → slice_get ids x.before ≡ Some before → slice_get ids x.after ≡ Some after
        → IsTrue (get_or marks i false) ↔ Reaches m after before
    mark_of i x before after at at_before at_after =
        let r = slice_get-from_map (λ (r : Ranked). r.id) order x.after after at_after in
        let s = slice_get-from_map (λ (r : Ranked). r.id) order x.before before at_before in
        subst₂ (λ (v w : Id). IsTrue (get_or marks i false) ↔ Reaches m v w) r.2 s.2
        (related.exact i x.after x.before r.0 s.0
        (slice_get-map (λ (x : Neighbours). (x.after, x.before)) found i x at) r.1 s.1)

    module _ (rows : List UncoveredRow) (made : AreRows ids found marks rows) where
      row_within : (r : UncoveredRow) → Contains rows r → r.key < length keys
      row_within r h =
          let u = (made.exact r).0 h in
          let n = (exact u.1).0 (Contains-slice_get found u.0 u.1 u.3) in
          let k = (AreNumbered-within commands touches are u.1 n).2 in
          let l = slice_get_within keys u.1.key k.0 k.1 in
          omega (arith, l, u.5.key)

      pub rows-within : All (λ r. r.key < length keys) rows
      rows-within = All-weaker (Contains rows) _ row_within rows (All-contains_itself rows)

      uncovered_from_row : (r : UncoveredRow) → Contains rows r
          → IsUncoveredPair m order (pair_of keys r)
      uncovered_from_row r h =
          let u = (made.exact r).0 h in
          let x = u.1 in
          let n = (exact x).0 (Contains-slice_get found u.0 x u.3) in
          let row = u.5 in
          let k = (AreNumbered-within commands touches are x n).2 in
          let key : k.0 ≡ get_or keys r.key [] =
          sym (get_or_from_slice_get keys x.key k.0 [] k.1)
          ∙ ap (λ j. get_or keys j []) row.key in
          let mark = mark_of u.0 x r.before r.after u.3 row.before row.after in
          let back : ¬ Reaches m r.after r.before = λ reach.
          false≢true (sym u.4 ∙ mark.1 reach) in
          record {
            first = x.before;
            second = x.after;
            before = row.before;
            after = row.after;
            neighbours = subst (AreNeighbours commands x.before x.after) key
                ((AreNumbered-iff_neighbours commands touches are x k.0 k.1).0 n);
            apart = (
              λ reach. back (Reaches-back m order orders x.before x.after r.before r.after n.rises
                  row.before row.after reach),
              back,
            );
          }

      row_from_uncovered : (n : NeighbourPair) → IsUncoveredPair m order n
          → Contains (map (pair_of keys) rows) n
      row_from_uncovered n u =
          let there = key_of_neighbours u.first u.second n.key u.neighbours in
          let at = slice_get-number_of keys n.key there in
          let x : Neighbours = record {
            before = u.first;
            after = u.second;
            key = number_of keys n.key;
          } in
          let numbered =
          (AreNumbered-iff_neighbours commands touches are x n.key at).1 u.neighbours in
          let i = slice_get-from_Contains found x ((exact x).1 numbered) in
          let mark = mark_of i.0 x n.before n.after i.1 u.before u.after in
          let unmarked : get_or marks i.0 false ≡ false =
          elim (cases_Bool (get_or marks i.0 false)) [
            | inl marked ↦ absurd (u.apart.1 (mark.0 marked))
            | inr plain ↦ plain
          ] in
          let r : UncoveredRow = record {
            before = n.before;
            after = n.after;
            key = number_of keys n.key;
          } in
          let in_rows = (made.exact r).1 (
            i.0,
            x,
            slice_get_within found i.0 x i.1,
            i.1,
            unmarked,
            record { before = u.before; after = u.after; key = refl },
          ) in
          let key : get_or keys (number_of keys n.key) [] ≡ n.key =
          get_or_from_slice_get keys (number_of keys n.key) n.key [] at in
          subst (λ (k : List ℕ). Contains (map (pair_of keys) rows)
          (record { before = n.before; after = n.after; key = k })) key
          (Contains-map (pair_of keys) rows r in_rows)
        where
          key_of_neighbours : (p q : ℕ) (k : List ℕ) → AreNeighbours commands p q k
              → Contains keys k
          key_of_neighbours p q k n = elim n.conflict [
            | inl c ↦ keys_in-touched commands q k c.1
            | inr c ↦ keys_in-touched commands p k c.0
          ]

      pub AreUncoveredPairs-rows : AreUncoveredPairs m order (map (pair_of keys) rows)
      AreUncoveredPairs-rows = record {
        exact = λ n. (
          λ h.
              let r = Contains-from_map (pair_of keys) rows n h in
              subst (IsUncoveredPair m order) r.2 (uncovered_from_row r.0 r.1),
          row_from_uncovered n,
        );
        rising = AllPairs-pair_of keys (AllPairs-keys_in commands) rows row_within made.rising;
      }

-- ---- the same for keys and commands that are known to be those of the order

module _ (m : List Instance) (order : List Ranked) (orders : IsExecutionOrder m order)
    (all : List (List Op)) (names : List (List ℕ)) (touches : List KeyTouch)
    (found : List Neighbours) (all_is : all ≡ commands_in m (ranked_ids order))
    (names_is : names ≡ keys_in all) (are : AreTouches names all touches)
    (exact : (x : Neighbours) → Contains found x ↔ AreNumbered touches x) where
  names_are : names ≡ keys_in (commands_in m (ranked_ids order))
  names_are = names_is ∙ ap keys_in all_is

  known : AreTouches (keys_in (commands_in m (ranked_ids order)))
      (commands_in m (ranked_ids order)) touches
  known = subst₂ (λ ks cs. AreTouches ks cs touches) names_are all_is are

  pub HavePositionsWithin-all : HavePositionsWithin (length (ranked_ids order)) found
  HavePositionsWithin-all = HavePositionsWithin-found m order orders touches known found exact

  pub AreLaterFirst-all : AreLaterFirst (length order) (map (λ x. (x.after, x.before)) found)
  AreLaterFirst-all = AreLaterFirst-found m order orders touches known found exact

  module _ (marks : List Bool) (rows : List UncoveredRow)
      (related : AreRelatedMarks m order (map (λ x. (x.after, x.before)) found) marks)
      (made : AreRows (ranked_ids order) found marks rows) where
    pub rows-within_names : All (λ r. r.key < length names) rows
    rows-within_names = subst (λ (ks : List (List ℕ)). All (λ (r : UncoveredRow). r.key < length ks)
        rows) (sym names_are)
        (rows-within m order orders touches known found exact marks related rows made)

    pub AreUncoveredPairs-all_rows : AreUncoveredPairs m order (map (pair_of names) rows)
    AreUncoveredPairs-all_rows = subst (λ (ks : List (List ℕ)). AreUncoveredPairs m order
        (map (pair_of ks) rows)) (sym names_are)
        (AreUncoveredPairs-rows m order orders touches known found exact marks related rows made)
