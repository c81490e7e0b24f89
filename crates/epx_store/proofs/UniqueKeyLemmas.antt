-- Entries without two of the same key, in any order.
use Rattle.std.proofs.Common.{◌≡◌, ◌≢◌, ℕ, zero, suc, ◌+◌, ◌≤◌, ℤ, cond, Bool, true, false, T, List}
use Rattle.std.proofs.Common.{[], ◌∷◌, ◌++◌, length, length-append, map, flat_map, get_or, drop}
use Rattle.std.proofs.Common.{sum_by, Contains, Option, Some, None, is_some, is_eq, is_lt, refl}
use Rattle.std.proofs.Common.{sym, ap, ap₂, subst, ◌∙◌, inl, inr, arith, IsPermutation}
use Rattle.epx_types.proofs.Common.{eq_by_cmp, ordering_then, ordering_reverse, Less, Equal}
use Rattle.epx_types.proofs.Common.{Greater, IsPermutation-sym, IsPermutation-map}
use Rattle.epx_types.proofs.Common.{Contains-permutation, drop_all, map-append, sum_by-cons}
use Rattle.epx_types.proofs.Common.{is_sorted, entries_sorted, get-entries, get-from_entries}
use Rattle.epx_types.proofs.Common.{below_all, key_cmp, Contents, key_cmp-IsTotalOrder}
use Rattle.epx_types.proofs.Common.{key_cmp-IsAntisymmetric, key_cmp-cases, Contains-nil}
use Rattle.epx_types.proofs.Common.{Contains-head}
use Rattle.epx_types.proofs.Common.{Contains-cons, Contains-cons_cases, and-first, and-second}
use Rattle.epx_types.proofs.Common.{Less-from_is_lt, entries-from_entries, Contents-extensional}
use Rattle.std.specs.Ordering.{int_cmp}
use Rattle.std.specs.List.Sorted.{IsSortedBy}
use Rattle.std.specs.Cmp.{tied_itself}
use Rattle.std.proofs.lemmas.List.Sorted.{sum_by-IsPermutation}
use Rattle.std.specs.FinMap as contents
use Rattle.std.specs.FinMap.{find, len-empty, len-insert, len-entries}
use Rattle.epx_store.specs.Shards.{shard_of, AreShards, all_contents}
use Rattle.epx_store.proofs.ShardLookupLemmas.{no_contents, find-nowhere}
use Rattle.epx_store.proofs.RisingEntryLemmas.{T-both, below_all-trans}

abbrev pub Entries : Type 0
Entries = List (List ℕ × ℤ)

-- the number of entries with a key
abbrev pub key_count : List ℕ → Entries → ℕ
key_count q [] = 0
key_count q (e ∷ es) = cond (eq_by_cmp key_cmp q e.0) 1 0 + key_count q es

-- no key has two entries
abbrev pub HasUniqueKeys : Entries → Type 0
HasUniqueKeys es = (q : List ℕ) → key_count q es ≤ 1

itself : (k : List ℕ) → eq_by_cmp key_cmp k k ≡ true
itself k = ap is_eq (tied_itself key_cmp-IsTotalOrder k)

key_count-append : (q : List ℕ) (es fs : Entries)
    → key_count q (es ++ fs) ≡ key_count q es + key_count q fs
key_count-append q [] fs = omega arith
key_count-append q (e ∷ es) fs = omega (arith, key_count-append q es fs)

key_count-sum_by : (q : List ℕ) (es : Entries)
    → key_count q es ≡ sum_by (λ e. cond (eq_by_cmp key_cmp q e.0) 1 0) es
key_count-sum_by q [] = refl
key_count-sum_by q (e ∷ es) = ap (λ n. cond (eq_by_cmp key_cmp q e.0) 1 0 + n)
    (key_count-sum_by q es) ∙ sym
    (sum_by-cons (λ (e : List ℕ × ℤ). cond (eq_by_cmp key_cmp q e.0) 1 0) e es)

-- a key is found exactly if it has an entry
key_count-none : (q : List ℕ) (es : Entries) → find key_cmp q es ≡ None → key_count q es ≡ 0
key_count-none q [] h = refl
key_count-none q (e ∷ es) h =
    elim (eq_by_cmp key_cmp q e.0) as (λ b. cond b (Some e.1) (find key_cmp q es) ≡ None
    → cond b 1 0 + key_count q es ≡ 0) [
      | true ↦ λ found. absurd (cc found)
      | false ↦ λ none. omega (arith, key_count-none q es none)
    ] h

find-none : (q : List ℕ) (es : Entries) → key_count q es ≡ 0 → find key_cmp q es ≡ None
find-none q [] h = refl
find-none q (e ∷ es) h =
    elim (eq_by_cmp key_cmp q e.0) as (λ b. cond b 1 0 + key_count q es ≡ 0
    → cond b (Some e.1) (find key_cmp q es) ≡ None) [
      | true ↦ λ some. absurd (omega (arith, some))
      | false ↦ λ none. find-none q es (omega (arith, none))
    ] h

-- ---- entries in which no key has two entries

key_count-below : (k : List ℕ) (es : Entries) → T (below_all key_cmp k es) → key_count k es ≡ 0
key_count-below k [] h = refl
key_count-below k (e ∷ es) h =
    ap (λ o. cond (is_eq o) 1 0 + key_count k es)
    (Less-from_is_lt (key_cmp k e.0) (and-first _ _ h))
    ∙ omega (arith, key_count-below k es (and-second _ _ h))

-- entries whose keys rise have no key twice
HasUniqueKeys-sorted : (es : Entries) → T (is_sorted key_cmp es) → HasUniqueKeys es
HasUniqueKeys-sorted [] h q = omega arith
HasUniqueKeys-sorted (e ∷ es) h q =
    elim (key_cmp-cases q e.0) [
      | inl tied ↦
          let none : key_count q es ≡ 0 = ap (λ k. key_count k es) tied.1 ∙ key_count-below e.0 es
          (and-first (below_all key_cmp e.0 es) (is_sorted key_cmp es) h) in
          omega (arith, ap {B = ℕ} (λ b. cond b 1 0) tied.0, none)
      | inr other ↦ let rest : key_count q es ≤ 1 =
          HasUniqueKeys-sorted es (and-second (below_all key_cmp e.0 es) (is_sorted key_cmp es) h)
          q in omega (arith, ap {B = ℕ} (λ b. cond b 1 0) other.0, rest)
    ]

-- maps together have no key twice if only one of them may have each key
key_count-in_one : (q : List ℕ) (cs : List Contents) (n : ℕ)
    → ((m : ℕ) → n ≢ m → contents.get (get_or cs m no_contents) q ≡ None)
    → key_count q (flat_map contents.entries cs) ≤ 1
key_count-in_one q [] n h = omega arith
key_count-in_one q (c ∷ cs) zero h =
    let none : key_count q (flat_map contents.entries cs) ≡ 0 =
    key_count-none q (flat_map contents.entries cs)
    (find-nowhere q cs (λ m. h (suc m) (λ e. absurd (omega (arith, e))))) in
    let once : key_count q (contents.entries c) ≤ 1 =
    HasUniqueKeys-sorted (contents.entries c) (entries_sorted c) q in
    omega (
      arith,
      key_count-append q (contents.entries c) (flat_map contents.entries cs),
      none,
      once,
    )
key_count-in_one q (c ∷ cs) (suc n) h =
    let none : key_count q (contents.entries c) ≡ 0 =
    key_count-none q (contents.entries c)
    (sym (get-entries c q) ∙ h 0 (λ e. absurd (omega (arith, e)))) in
    let once : key_count q (flat_map contents.entries cs) ≤ 1 =
    key_count-in_one q cs n (λ m apart. h (suc m) (λ e. apart (omega (arith, e)))) in
    omega (
      arith,
      key_count-append q (contents.entries c) (flat_map contents.entries cs),
      none,
      once,
    )

-- the shards of a store have no key twice
pub HasUniqueKeys-shards : (shards : List Contents) → AreShards shards
    → HasUniqueKeys (flat_map contents.entries shards)
HasUniqueKeys-shards shards h q =
    key_count-in_one q shards (shard_of q) (λ m apart. h.own m q apart)

HasUniqueKeys-tail : (e : List ℕ × ℤ) (es : Entries) → HasUniqueKeys (e ∷ es) → HasUniqueKeys es
HasUniqueKeys-tail e es h q = omega (arith, h q)

-- the first key has no entry in the rest
first_alone : (e : List ℕ × ℤ) (es : Entries) → HasUniqueKeys (e ∷ es) → key_count e.0 es ≡ 0
first_alone e es h = omega (arith, rw (itself e.0) at (h e.0))

-- ---- the number of entries

pub len-from_entries : (es : Entries) → HasUniqueKeys es
    → contents.len (contents.from_entries {R = key_cmp} es) ≡ length es
len-from_entries [] h = len-empty key_cmp ℤ
len-from_entries (e ∷ es) h =
    let rest = len-from_entries es (HasUniqueKeys-tail e es h) in
    let none : contents.get (contents.from_entries {R = key_cmp} es) e.0 ≡ None =
    get-from_entries key_cmp-IsTotalOrder es e.0 ∙ find-none e.0 es (first_alone e es h) in
    len-insert key_cmp-IsTotalOrder (contents.from_entries es) e.0 e.1
    ∙ ap (λ o. cond (is_some o) (contents.len (contents.from_entries {R = key_cmp} es))
    (contents.len (contents.from_entries {R = key_cmp} es) + 1)) none
    ∙ omega (arith, rest)

length-all : (cs : List Contents) → length (flat_map contents.entries cs) ≡ sum_by contents.len cs
length-all [] = refl
length-all (c ∷ cs) =
    length-append (contents.entries c) (flat_map contents.entries cs)
    ∙ omega (arith, length-all cs, len-entries c)
    ∙ sym (sum_by-cons contents.len c cs)

-- the loop counts the entries of all shards
pub len-counted : (shards : List Contents) (c : Contents) (i n : ℕ) → AreShards shards
    → all_contents shards ≡ c → length shards ≤ i
    → n + sum_by contents.len (drop i shards) ≡ sum_by contents.len shards → n ≡ contents.len c
len-counted shards c i n h is past counted =
    let all : n + sum_by (contents.len {X = ℤ} {R = key_cmp}) [] ≡ sum_by contents.len shards =
    ap (λ (cs : List Contents). n + sum_by contents.len cs) (sym (drop_all i shards past))
    ∙ counted in
    let none : sum_by (contents.len {X = ℤ} {R = key_cmp}) [] ≡ 0 = refl in
    omega (arith, all, none)
    ∙ sym (length-all shards)
    ∙ sym (len-from_entries (flat_map contents.entries shards) (HasUniqueKeys-shards shards h))
    ∙ ap contents.len is

-- ---- in another order

-- an entry is found by its key
find-Contains : (es : Entries) → HasUniqueKeys es → (q : List ℕ) (v : ℤ) → Contains es (q, v)
    → find key_cmp q es ≡ Some v
find-Contains [] h q v c = absurd (Contains-nil (q, v) c)
find-Contains (e ∷ es) h q v c =
    elim (Contains-cons_cases e es (q, v) c) [
      | inl first ↦ ap (λ b. cond b (Some e.1) (find key_cmp q es))
          (ap (λ p. eq_by_cmp key_cmp q p.0) first ∙ itself q) ∙ ap (λ p. Some p.1) first
      | inr rest ↦
          let found = find-Contains es (HasUniqueKeys-tail e es h) q v rest in
          elim (key_cmp-cases q e.0) [
            | inl tied ↦ absurd
                (cc (
                  found,
                  ap (λ k. find key_cmp k es) tied.1
                      ∙ find-none e.0 es (first_alone e es h),
                ))
            | inr other ↦ ap (λ b. cond b (Some e.1) (find key_cmp q es)) other.0 ∙ found
          ]
    ]

-- what is found for a key is an entry
Contains-find : (es : Entries) (q : List ℕ) (v : ℤ) → find key_cmp q es ≡ Some v
    → Contains es (q, v)
Contains-find [] q v h = absurd (cc h)
Contains-find (e ∷ es) q v h =
    elim (key_cmp-cases q e.0) [
      | inl tied ↦
          let value : Some e.1 ≡ Some v =
          sym (ap (λ b. cond b (Some e.1) (find key_cmp q es)) tied.0) ∙ h in
          let first : e ≡ (q, v) = ap₂ (λ k w. (k, w)) (sym tied.1) (cc value) in
          subst (Contains (e ∷ es)) first (Contains-head e es)
      | inr other ↦ Contains-cons e es (q, v)
          (Contains-find es q v (sym (ap (λ b. cond b (Some e.1) (find key_cmp q es)) other.0)
          ∙ h))
    ]

module _ (es fs : Entries) (moved : IsPermutation es fs) (once : HasUniqueKeys es) where
  key_count-moved : (q : List ℕ) → key_count q fs ≡ key_count q es
  key_count-moved q = key_count-sum_by q fs
      ∙ sum_by-IsPermutation (λ (e : List ℕ × ℤ). cond (eq_by_cmp key_cmp q e.0) 1 0) es fs moved
      ∙ sym (key_count-sum_by q es)

  pub HasUniqueKeys-moved : HasUniqueKeys fs
  HasUniqueKeys-moved q = omega (arith, key_count-moved q, once q)

  find-moved : (q : List ℕ) (o : Option ℤ) → find key_cmp q fs ≡ o
      → find key_cmp q fs ≡ find key_cmp q es
  find-moved q None h = h ∙ sym (find-none q es (sym (key_count-moved q) ∙ key_count-none q fs h))
  find-moved q (Some v) h =
      h ∙ sym (find-Contains es once q v
      (Contains-permutation fs es (q, v) (IsPermutation-sym es fs moved) (Contains-find fs q v h)))

  -- entries in rising order are the entries of their map
  pub entries-moved : T (is_sorted key_cmp fs) → (c : Contents)
      → contents.from_entries {R = key_cmp} es ≡ c → fs ≡ contents.entries c
  entries-moved rises c is =
      let same : contents.from_entries {R = key_cmp} fs ≡ contents.from_entries {R = key_cmp} es =
      Contents-extensional _ _ (λ q. get-from_entries key_cmp-IsTotalOrder fs q
      ∙ find-moved q (find key_cmp q fs) refl ∙ sym (get-from_entries key_cmp-IsTotalOrder es q)) in
      sym (entries-from_entries fs rises) ∙ ap contents.entries (same ∙ is)

-- ---- entries sorted by key and then by value

module _ {A : Type 0} (key : A → List ℕ) (value : A → ℤ) where
  abbrev shown : A → List ℕ × ℤ
  shown x = (key x, value x)

  abbrev lower : A → A → Bool
  lower x y = is_lt (ordering_then (key_cmp (key x) (key y)) (int_cmp (value x) (value y)))

  -- of two neighbours the first has the lower key
  next_below : (x y : A) (es : Entries) → lower y x ≡ false
      → HasUniqueKeys (shown x ∷ shown y ∷ es) → key_cmp (key x) (key y) ≡ Less
  next_below x y es h once =
      elim (key_cmp (key y) (key x)) as (λ o. key_cmp (key y) (key x) ≡ o
      → is_lt (ordering_then o (int_cmp (value y) (value x))) ≡ false
      → key_cmp (key x) (key y) ≡ Less) [
        | Less ↦ λ e wrong. absurd (cc wrong)
        | Equal ↦ λ e wrong.
            let tied : key y ≡ key x = key_cmp-IsAntisymmetric (key y) (key x) e in
            let none : key_count (key x) (shown y ∷ es) ≡ 0 =
            first_alone (shown x) (shown y ∷ es) once in
            let some : key_count (key x) (shown y ∷ es) ≡ 1 + key_count (key x) es =
            ap (λ b. cond b 1 0 + key_count (key x) es)
            (ap (λ k. eq_by_cmp key_cmp k (key y)) (sym tied) ∙ itself (key y)) in
            absurd (omega (arith, none, some))
        | Greater ↦ λ e wrong. key_cmp-IsTotalOrder.antisymm (key x) (key y) ∙ ap ordering_reverse e
      ] refl h

  ascending_tail : (x y : A) (xs : List A) → IsSortedBy lower (x ∷ y ∷ xs)
      → IsSortedBy lower (y ∷ xs)
  ascending_tail x y xs h k d low within =
      let P : ℕ → Type 0 = λ n. lower (get_or (x ∷ y ∷ xs) n d) (get_or (y ∷ xs) k d) ≡ false in
      let e : suc k + 1 ≡ suc (k + 1) = omega arith in
      subst P e (h (suc k) d (omega arith) (omega arith))

  pub rises-sorted : (xs : List A) → IsSortedBy lower xs → HasUniqueKeys (map shown xs)
      → T (is_sorted key_cmp (map shown xs))
  rises-sorted [] h once = tt
  rises-sorted (x ∷ []) h once = tt
  rises-sorted (x ∷ y ∷ xs) h once =
      let rest = rises-sorted (y ∷ xs) (ascending_tail x y xs h)
      (HasUniqueKeys-tail (shown x) (shown y ∷ map shown xs) once) in
      let below = next_below x y (map shown xs) (h 0 x (omega arith) (omega arith)) once in
      T-both _ _ (T-both _ _ (subst T (sym (ap is_lt below)) tt)
      (below_all-trans (key x) (key y) (map shown xs) below (and-first _ _ rest))) rest

  -- the entries of all shards in any order are those of the store if their keys rise
  pub entries-rising : (shards : List Contents) (ys : List A) → AreShards shards
      → IsPermutation (flat_map contents.entries shards) (map shown ys)
      → (HasUniqueKeys (map shown ys) → T (is_sorted key_cmp (map shown ys)))
      → map shown ys ≡ contents.entries (all_contents shards)
  entries-rising shards ys h placed rises =
      let all : Entries = flat_map contents.entries shards in
      let once : HasUniqueKeys all = HasUniqueKeys-shards shards h in
      entries-moved all (map shown ys) placed once
      (rises (HasUniqueKeys-moved all (map shown ys) placed once)) _ refl

  -- the entries of each shard one after another are those of all shards
  entries-listed : {B : Type 0} (items : B → List A) (ls : List B) (shards : List Contents)
      → map (λ l. map shown (items l)) ls ≡ map contents.entries shards
      → map shown (flat_map items ls) ≡ flat_map contents.entries shards
  entries-listed items [] [] h = refl
  entries-listed items [] (c ∷ cs) h = absurd (cc h)
  entries-listed items (l ∷ ls) [] h = absurd (cc h)
  entries-listed items (l ∷ ls) (c ∷ cs) h =
      map-append shown (items l) (flat_map items ls)
      ∙ ap₂ (λ es fs. es ++ fs) (cc h) (entries-listed items ls cs (cc h))

  -- what the lists of all shards hold is also what another order of it shows
  pub entries-placed : {B : Type 0} (items : B → List A) (ls : List B) (shards : List Contents)
      (ys : List A) → map (λ l. map shown (items l)) ls ≡ map contents.entries shards
      → IsPermutation (flat_map items ls) ys
      → IsPermutation (flat_map contents.entries shards) (map shown ys)
  entries-placed items ls shards ys h moved =
      subst (λ es. IsPermutation es (map shown ys)) (entries-listed items ls shards h)
      (IsPermutation-map shown (flat_map items ls) ys moved)
