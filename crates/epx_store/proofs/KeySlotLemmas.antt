-- The linear search for a key among entries by rising key, and the insertion at its slot.
use Rattle.std.proofs.Common.{◌≡◌, ℕ, ◌+◌, ◌<◌, ◌≤◌, ℤ, T, List, [], ◌∷◌, ◌++◌, length, map, get_or}
use Rattle.std.proofs.Common.{set, take, drop, Option, Some, None, cond, refl, sym, ap, subst, ◌∙◌}
use Rattle.std.proofs.Common.{is_eq, append_assoc, add-one, arith}
use Rattle.std.specs.List.{insert, take-map, drop-map}
use Rattle.std.proofs.Math.ListN.{get_or-map}
use Rattle.epx_types.proofs.Common.{take_more, take_all, drop_all, length-map, map-append}
use Rattle.epx_types.proofs.Common.{get_or_default, Less, Equal, Greater, FinMap, is_sorted}
use Rattle.epx_types.proofs.Common.{entries_sorted, get-from_entries, below_all, Contents, key_cmp}
use Rattle.epx_types.proofs.Common.{apply_writes, key_cmp-IsTotalOrder, key_cmp-IsAntisymmetric}
use Rattle.epx_types.proofs.Common.{and-first}
use Rattle.epx_types.proofs.Common.{find-below_all, entries-from_entries, write_all}
use Rattle.epx_types.proofs.Common.{insert_all-from_entries}
use Rattle.std.proofs.lemmas.List.{set_split, map-set}
use Rattle.std.specs.FinMap as contents
use Rattle.std.specs.FinMap.{find, put, entries-insert, same_entries_map}
use Rattle.std.specs.FinMap.Entries.{by_order}
use Rattle.epx_store.specs.inner.KeySlots.{IsAtSlot, IsInsertedAt}
use Rattle.epx_store.proofs.DropLemmas.{drop-at_index}
use Rattle.epx_store.proofs.RisingEntryLemmas.{below_all-trans, is_sorted-drop}

abbrev pub Entries : Type 0
Entries = List (List ℕ × Option ℤ)

-- all entries before slot i have lower keys
pub record AreLowerBefore (es : Entries) (k : List ℕ) (i : ℕ) : Type 0 where
  pub found : find key_cmp k es ≡ find key_cmp k (drop i es)
  pub put : (v : Option ℤ) → put key_cmp k v es ≡ take i es ++ put key_cmp k v (drop i es)

pub AreLowerBefore-none : (es : Entries) (k : List ℕ) → AreLowerBefore es k 0
AreLowerBefore-none es k = record { found = refl; put = λ v. refl }

module _ (es : Entries) (k : List ℕ) (i : ℕ) (past : AreLowerBefore es k i) where
  module _ (e : List ℕ × Option ℤ) (within : i < length es) (here : e ≡ get_or es i e) where
    left : drop i es ≡ e ∷ drop (i + 1) es
    left = drop-at_index es i e within here

    find_here : find key_cmp k es ≡ cond (is_eq (key_cmp k e.0)) (Some e.1)
        (find key_cmp k (drop (i + 1) es))
    find_here = past.found ∙ ap (find key_cmp k) left

    put_here : (v : Option ℤ) → put key_cmp k v es
        ≡ take i es ++ by_order (key_cmp k e.0) ((k, v) ∷ e ∷ drop (i + 1) es)
        ((e.0, v) ∷ drop (i + 1) es) (e ∷ put key_cmp k v (drop (i + 1) es))
    put_here v = past.put v ∙ ap (λ xs. take i es ++ put key_cmp k v xs) left

    pub IsInsertedAt-if_less : T (is_sorted key_cmp es) → key_cmp k e.0 ≡ Less → IsInsertedAt es k i
    IsInsertedAt-if_less rises less =
        let above : T (is_sorted key_cmp (e ∷ drop (i + 1) es)) =
        subst (λ xs. T (is_sorted key_cmp xs)) left (is_sorted-drop es i rises) in
        let all : T (below_all key_cmp k (drop (i + 1) es)) =
        below_all-trans k e.0 (drop (i + 1) es) less (and-first _ _ above) in
        record {
          within = omega arith;
          absent = find_here
              ∙ ap (λ o. cond (is_eq o) (Some e.1) (find key_cmp k (drop (i + 1) es))) less
              ∙ find-below_all k (drop (i + 1) es) all;
          put = λ v.
              put_here v
              ∙ ap (λ o. take i es ++ by_order o ((k, v) ∷ e ∷ drop (i + 1) es)
              ((e.0, v) ∷ drop (i + 1) es) (e ∷ put key_cmp k v (drop (i + 1) es))) less
              ∙ ap (λ xs. take i es ++ (k, v) ∷ xs) (sym left);
        }

    pub IsAtSlot-if_equal : key_cmp k e.0 ≡ Equal → IsAtSlot es k i
    IsAtSlot-if_equal equal =
        record {
          within = within;
          found = λ d.
              find_here
              ∙ ap (λ o. cond (is_eq o) (Some e.1) (find key_cmp k (drop (i + 1) es))) equal
              ∙ ap (λ x. Some x.1) (here ∙ get_or_default es i e d within);
          put = λ v.
              put_here v
              ∙ ap (λ o. take i es ++ by_order o ((k, v) ∷ e ∷ drop (i + 1) es)
              ((e.0, v) ∷ drop (i + 1) es) (e ∷ put key_cmp k v (drop (i + 1) es))) equal
              ∙ ap (λ q. take i es ++ (q, v) ∷ drop (i + 1) es)
              (sym (key_cmp-IsAntisymmetric k e.0 equal))
              ∙ ap (λ j. take i es ++ (k, v) ∷ drop j es) (add-one i)
              ∙ sym (set_split es i (k, v) within);
        }

    pub AreLowerBefore-step : key_cmp k e.0 ≡ Greater → AreLowerBefore es k (i + 1)
    AreLowerBefore-step greater =
        record {
          found = find_here
              ∙ ap (λ o. cond (is_eq o) (Some e.1) (find key_cmp k (drop (i + 1) es))) greater;
          put = λ v.
              put_here v
              ∙ ap (λ o. take i es ++ by_order o ((k, v) ∷ e ∷ drop (i + 1) es)
              ((e.0, v) ∷ drop (i + 1) es) (e ∷ put key_cmp k v (drop (i + 1) es))) greater
              ∙ sym (append_assoc (take i es) (e ∷ []) (put key_cmp k v (drop (i + 1) es)))
              ∙ ap (λ xs. xs ++ put key_cmp k v (drop (i + 1) es))
              (sym (take_more es i e within ∙ ap (λ x. take i es ++ x ∷ []) (sym here)));
        }

  -- no entry is left to compare
  pub IsInsertedAt-at_end : (n : ℕ) → n ≡ i → length es ≡ n → IsInsertedAt es k n
  IsInsertedAt-at_end n same last =
      let none : drop n es ≡ [] = drop_all n es (omega arith) in
      let after : AreLowerBefore es k n = subst (AreLowerBefore es k) (sym same) past in
      record {
        within = omega arith;
        absent = after.found ∙ ap (find key_cmp k) none;
        put = λ v. after.put v ∙ ap (λ xs. take n es ++ put key_cmp k v xs) none
            ∙ ap (λ xs. take n es ++ (k, v) ∷ xs) (sym none);
      }

-- ---- the entries as a finite map

module _ (es : Entries) (rises : T (is_sorted key_cmp es)) (k : List ℕ) (v : Option ℤ) where
  entries_put : contents.entries (contents.insert (contents.from_entries {R = key_cmp} es) k v)
      ≡ put key_cmp k v es
  entries_put = entries-insert key_cmp-IsTotalOrder (contents.from_entries es) k v
      ∙ ap (put key_cmp k v) (entries-from_entries es rises)

  module _ (fs : Entries) (is : fs ≡ put key_cmp k v es) where
    pub is_sorted-put : T (is_sorted key_cmp fs)
    is_sorted-put = subst (λ xs. T (is_sorted key_cmp xs)) (entries_put ∙ sym is)
        (entries_sorted (contents.insert (contents.from_entries {R = key_cmp} es) k v))

    -- an entry that is put at its slot is inserted
    pub from_entries-put : (m : FinMap key_cmp (Option ℤ)) → contents.from_entries es ≡ m
        → contents.from_entries fs ≡ contents.insert m k v
    from_entries-put m view_is =
        same_entries_map _ _ (entries-from_entries fs is_sorted-put ∙ is ∙ sym entries_put)
        ∙ ap (λ n. contents.insert n k v) view_is

-- the value at the slot of a key
module _ (es : Entries) (m : FinMap key_cmp (Option ℤ)) (view_is : contents.from_entries es ≡ m)
    (k : List ℕ) where
  got_at : find key_cmp k es ≡ contents.get m k
  got_at = sym (get-from_entries key_cmp-IsTotalOrder es k) ∙ ap (λ n. contents.get n k) view_is

  pub get-at_slot : (i : ℕ) (d : List ℕ × Option ℤ) → IsAtSlot es k i
      → Some (get_or es i d).1 ≡ contents.get m k
  get-at_slot i d h = sym (h.found d) ∙ got_at

  pub get-absent : (i : ℕ) → IsInsertedAt es k i → None ≡ contents.get m k
  get-absent i h = sym h.absent ∙ got_at

-- ---- entries that are the views of other values, such as borrowed keys with values

module _ {A : Type 0} (shown : A → List ℕ × Option ℤ) (xs : List A) where
  pub get_or-shown : (i : ℕ) (x : A) → x ≡ get_or xs i x
      → shown x ≡ get_or (map shown xs) i (shown x)
  get_or-shown i x here = ap shown here ∙ sym (get_or-map shown xs i x)

  pub map-within : (i : ℕ) → i < length xs → i < length (map shown xs)
  map-within i within = omega (arith, length-map xs shown)

  -- the map has as many keys as there are entries
  pub len-shown : (m : FinMap key_cmp (Option ℤ)) → T (is_sorted key_cmp (map shown xs))
      → contents.from_entries (map shown xs) ≡ m → contents.len m ≡ length xs
  len-shown m rises view_is =
      ap contents.len (sym view_is)
      ∙ contents.len-entries (contents.from_entries (map shown xs))
      ∙ ap length (entries-from_entries (map shown xs) rises)
      ∙ length-map xs shown

  -- an entry that replaces the one with its key, or is inserted at its slot, is inserted into the
  -- map
  pub map-set_at_slot : (i : ℕ) (x : A) → IsAtSlot (map shown xs) (shown x).0 i
      → map shown (set xs i x) ≡ put key_cmp (shown x).0 (shown x).1 (map shown xs)
  map-set_at_slot i x there = map-set shown xs i x ∙ sym (there.put (shown x).1)

  pub map-insert_at_slot : (i : ℕ) (x : A) (ys : List A) → IsInsertedAt (map shown xs) (shown x).0 i
      → ys ≡ insert xs i x → map shown ys ≡ put key_cmp (shown x).0 (shown x).1 (map shown xs)
  map-insert_at_slot i x ys there is =
      ap (map shown) is
      ∙ map-append shown (take i xs) (x ∷ drop i xs)
      ∙ ap (λ zs. map shown (take i xs) ++ shown x ∷ zs) (sym (drop-map shown i xs))
      ∙ ap (λ zs. zs ++ shown x ∷ drop i (map shown xs)) (sym (take-map shown i xs))
      ∙ sym (there.put (shown x).1)

  -- a loop that lists all entries
  pub map-take_step : (i : ℕ) (x : A) (before after : Entries) → i < length xs → x ≡ get_or xs i x
      → before ≡ map shown (take i xs) → after ≡ before ++ shown x ∷ []
      → after ≡ map shown (take (i + 1) xs)
  map-take_step i x before after within here so_far is =
      is
      ∙ ap (λ es. es ++ shown x ∷ []) so_far
      ∙ sym (map-append shown (take i xs) (x ∷ []))
      ∙ ap (map shown) (sym (take_more xs i x within ∙ ap (λ y. take i xs ++ y ∷ []) (sym here)))

  -- a loop that inserts all entries
  pub write_all-step : (i : ℕ) (x : A) (before after all : FinMap key_cmp (Option ℤ))
      → i < length xs → x ≡ get_or xs i x
      → write_all contents.insert (map shown (drop i xs)) before ≡ all
      → after ≡ contents.insert before (shown x).0 (shown x).1
      → write_all contents.insert (map shown (drop (i + 1) xs)) after ≡ all
  write_all-step i x before after all within here so_far is =
      ap (write_all contents.insert (map shown (drop (i + 1) xs))) is
      ∙ ap (λ ys. write_all contents.insert (map shown ys) before)
      (sym (drop-at_index xs i x within here))
      ∙ so_far

  module _ (items : List A) (same : xs ≡ items)
      (rises : T (is_sorted key_cmp (map shown items))) where
    pub entries-all_listed : (m : FinMap key_cmp (Option ℤ)) (i : ℕ) (done : Entries)
        → contents.from_entries (map shown items) ≡ m → length xs ≤ i
        → done ≡ map shown (take i xs) → done ≡ contents.entries m
    entries-all_listed m i done view_is past so_far =
        so_far
        ∙ ap (map shown) (take_all i xs past ∙ same)
        ∙ sym (entries-from_entries (map shown items) rises)
        ∙ ap contents.entries view_is

    -- all entries are put into the contents
    pub apply_writes-entries : (m : FinMap key_cmp (Option ℤ)) (i : ℕ) (before after : Contents)
        → contents.from_entries (map shown items) ≡ m → length xs ≤ i
        → apply_writes (map shown (drop i xs)) after ≡ apply_writes (map shown xs) before
        → after ≡ apply_writes (contents.entries m) before
    apply_writes-entries m i before after view_is past so_far =
        ap (λ ys. apply_writes (map shown ys) after) (sym (drop_all i xs past))
        ∙ so_far
        ∙ ap (λ ws. apply_writes ws before)
        (ap (map shown) same ∙ sym (entries-from_entries (map shown items) rises)
        ∙ ap contents.entries view_is)

    pub write_all-from_empty : (t : FinMap key_cmp (Option ℤ)) → t ≡ contents.empty
        → write_all contents.insert (map shown xs) t ≡ contents.from_entries (map shown xs)
    write_all-from_empty t none =
        ap (write_all contents.insert (map shown xs)) none
        ∙ insert_all-from_entries (map shown xs)
        (subst (λ ys. T (is_sorted key_cmp (map shown ys))) (sym same) rises)

    pub write_all-at_end : (m t : FinMap key_cmp (Option ℤ)) (i : ℕ)
        → contents.from_entries (map shown items) ≡ m → length xs ≤ i
        → write_all contents.insert (map shown (drop i xs)) t
        ≡ contents.from_entries (map shown xs) → t ≡ m
    write_all-at_end m t i view_is past so_far =
        ap (λ ys. write_all contents.insert (map shown ys) t) (sym (drop_all i xs past))
        ∙ so_far
        ∙ ap (λ ys. contents.from_entries (map shown ys)) same
        ∙ view_is
