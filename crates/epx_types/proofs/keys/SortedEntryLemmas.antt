-- Entries with rising keys, and the finite map that they form.
use Rattle.std.proofs.Common.{◌≡◌, inl, inr, ℕ, ◌∙◌, refl, sym, ap, T, Bool, true, false, cond}
use Rattle.std.proofs.Common.{◌&&◌, List, [], ◌∷◌, Option, Some, None, unwrap_or, option_map}
use Rattle.std.proofs.Common.{length, arith}
use Rattle.std.specs.Ordering.{eq_by_cmp, is_eq, is_lt, match_ordering}
use Rattle.std.specs.declared.cmp.Ordering.{Ordering}
use Rattle.std.specs.declared.cmp.Ordering.TheVariants.{Less, Equal, Greater}
use Rattle.std.specs.Map.{keys_of}
use Rattle.std.specs.BTreeSet.{insert_key}
use Rattle.std.specs.FinMap as contents
use Rattle.std.specs.FinMap.{FinMap, find, put, is_sorted, same_map, get-from_entries, get-insert}
use Rattle.std.specs.FinMap.{entries-insert}
use Rattle.std.specs.FinMap.Entries.{below_all, by_order}
use Rattle.epx_types.specs.Keys.{key_cmp}
use Rattle.epx_types.proofs.keys.KeyListLemmas.{key_cmp-IsTotalOrder, key_cmp-IsAntisymmetric}
use Rattle.epx_types.proofs.keys.KeyListLemmas.{key_cmp-cases}

-- the test whether a key is below another, as an order
pub Less-from_is_lt : (o : Ordering) → T (is_lt o) → o ≡ Less
Less-from_is_lt Less h = refl
Less-from_is_lt Equal h = absurd h
Less-from_is_lt Greater h = absurd h

-- keys that compare as equal are equal
pub eq_by_cmp-same_key : (x y : List ℕ) → eq_by_cmp key_cmp x y ≡ true → x ≡ y
eq_by_cmp-same_key x y e =
    elim (key_cmp-cases x y) [ inl tied ↦ tied.1 | inr other ↦ absurd (cc (e, other.0)) ]

-- the parts of a test that holds
pub and-first : (a b : Bool) → T (a && b) → T a
and-first true b h = tt
and-first false b h = absurd h

pub and-second : (a b : Bool) → T (a && b) → T b
and-second true b h = h
and-second false b h = absurd h

module _ {X : Type 0} where
  -- an entry whose key is below all others is put first
  put_first : (k : List ℕ) (v : X) (es : List (List ℕ × X)) → T (below_all key_cmp k es)
      → put key_cmp k v es ≡ (k, v) ∷ es
  put_first k v [] h = refl
  put_first k v (e ∷ es) h =
      ap (λ o. by_order o ((k, v) ∷ e ∷ es) ((e.0, v) ∷ es) (e ∷ put key_cmp k v es))
      (Less-from_is_lt (key_cmp k e.0) (and-first _ _ h))

  no_entries : (es : List (List ℕ × X)) → length es ≡ 0 → es ≡ []
  no_entries [] e = refl
  no_entries (x ∷ es) e = absurd (omega arith)

  pub entries-empty : contents.entries (contents.empty {X = X} {R = key_cmp}) ≡ []
  entries-empty = no_entries (contents.entries contents.empty)
      (sym (contents.len-entries contents.empty) ∙ contents.len-empty key_cmp X)

  -- the finite map of entries with rising keys has exactly these entries
  pub entries-from_entries : (es : List (List ℕ × X)) → T (is_sorted key_cmp es)
      → contents.entries (contents.from_entries {R = key_cmp} es) ≡ es
  entries-from_entries [] h = entries-empty
  entries-from_entries (e ∷ es) h =
      entries-insert key_cmp-IsTotalOrder (contents.from_entries es) e.0 e.1
      ∙ ap (put key_cmp e.0 e.1) (entries-from_entries es (and-second _ _ h))
      ∙ put_first e.0 e.1 es (and-first _ _ h)

  -- a key below all others is not found
  pub find-below_all : (k : List ℕ) (es : List (List ℕ × X)) → T (below_all key_cmp k es)
      → find key_cmp k es ≡ None
  find-below_all k [] h = refl
  find-below_all k (e ∷ es) h =
      ap (λ o. cond (is_eq o) (Some e.1) (find key_cmp k es))
      (Less-from_is_lt (key_cmp k e.0) (and-first _ _ h)) ∙ find-below_all k es (and-second _ _ h)

-- entries written into a map one after another, by any function that writes one
module _ {X Y : Type 0} (write : FinMap key_cmp X → List ℕ → Y → FinMap key_cmp X) where
  abbrev pub write_all : List (List ℕ × Y) → FinMap key_cmp X → FinMap key_cmp X
  write_all [] m = m
  write_all (e ∷ es) m = write_all es (write m e.0 e.1)

  module _ (gives : Y → Option X) (law : (m : FinMap key_cmp X) (k : List ℕ) (y : Y) (q : List ℕ)
      → contents.get (write m k y) q ≡ cond (eq_by_cmp key_cmp q k) (gives y)
      (contents.get m q)) where
    -- if the keys rise, a key among them has the value that was written
    pub get-write_all : (es : List (List ℕ × Y)) → T (is_sorted key_cmp es)
        → (m : FinMap key_cmp X) (q : List ℕ) → contents.get (write_all es m) q
        ≡ unwrap_or (option_map gives (find key_cmp q es)) (contents.get m q)
    get-write_all [] h m q = refl
    get-write_all (e ∷ es) h m q =
        get-write_all es (and-second _ _ h) (write m e.0 e.1) q
        ∙ ap (unwrap_or (option_map gives (find key_cmp q es))) (law m e.0 e.1 q)
        ∙ elim (eq_by_cmp key_cmp q e.0) as (λ b. eq_by_cmp key_cmp q e.0 ≡ b
        → unwrap_or (option_map gives (find key_cmp q es)) (cond b (gives e.1) (contents.get m q))
        ≡ unwrap_or (option_map gives (cond b (Some e.1) (find key_cmp q es))) (contents.get m q)) [
          | true ↦ λ t. ap (λ o. unwrap_or (option_map gives o) (gives e.1))
              (ap (λ k. find key_cmp k es) (eq_by_cmp-same_key q e.0 t)
              ∙ find-below_all e.0 es (and-first _ _ h))
          | false ↦ λ t. refl
        ] refl

-- inserting entries with rising keys one after another makes their map
pub insert_all-from_entries : {X : Type 0} (es : List (List ℕ × X)) → T (is_sorted key_cmp es)
    → write_all contents.insert es contents.empty ≡ contents.from_entries {R = key_cmp} es
insert_all-from_entries {X} es h =
    let found : (o : Option X) → unwrap_or (option_map Some o) None ≡ o =
    λ o. elim o as (λ (o : Option X). unwrap_or (option_map Some o) None ≡ o)
    [ None ↦ refl | Some x ↦ refl ] in
    same_map key_cmp-IsTotalOrder key_cmp-IsAntisymmetric _ _ (λ q.
    get-write_all contents.insert Some (get-insert key_cmp-IsTotalOrder) es h contents.empty q
    ∙ ap (unwrap_or (option_map Some (find key_cmp q es))) (contents.get-empty key_cmp q)
    ∙ found (find key_cmp q es)
    ∙ sym (get-from_entries key_cmp-IsTotalOrder es q))

-- the keys after putting an entry are the keys with its key inserted
pub keys_of-put : {X : Type 0} (k : List ℕ) (v : X) (es : List (List ℕ × X))
    → keys_of (put key_cmp k v es) ≡ insert_key key_cmp (keys_of es) k
keys_of-put k v [] = refl
keys_of-put {X} k v (e ∷ es) =
    elim (key_cmp k e.0) as (λ o. keys_of
    (by_order o ((k, v) ∷ e ∷ es) ((e.0, v) ∷ es) (e ∷ put key_cmp k v es))
    ≡ match_ordering o (k ∷ e.0 ∷ keys_of es) (e.0 ∷ keys_of es)
    (e.0 ∷ insert_key key_cmp (keys_of es) k)) [
      | Less ↦ refl
      | Equal ↦ refl
      | Greater ↦ ap (λ ks. e.0 ∷ ks) (keys_of-put k v es)
    ]
