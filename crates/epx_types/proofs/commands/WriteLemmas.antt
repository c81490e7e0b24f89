-- Contents after writes by rising key, and writes collected in a finite map.
use Rattle.std.proofs.Common.{◌≡◌, ℕ, ℤ, ◌∙◌, refl, sym, ap, T, true, false, cond, List, [], ◌∷◌}
use Rattle.std.proofs.Common.{◌++◌, map, Option, Some, None, unwrap_or, option_map}
use Rattle.std.specs.Ordering.{eq_by_cmp, is_eq}
use Rattle.std.specs.Cmp.{tied_itself}
use Rattle.std.specs.Map.{keys_of}
use Rattle.std.specs.FinMap as contents
use Rattle.std.specs.FinMap.{FinMap, find, is_sorted, same_map, get-insert, entries_sorted}
use Rattle.std.specs.FinMap.{get-entries}
use Rattle.epx_types.specs.Keys.{key_cmp}
use Rattle.epx_types.specs.Contents.{Contents, assign}
use Rattle.epx_types.specs.Writes.{Write, apply_writes}
use Rattle.epx_types.proofs.keys.KeyListLemmas.{key_cmp-IsTotalOrder, key_cmp-IsAntisymmetric}
use Rattle.epx_types.proofs.commands.ContentsLemmas.{get-assign}
use Rattle.epx_types.proofs.keys.SortedEntryLemmas.{write_all, get-write_all, find-below_all}
use Rattle.epx_types.proofs.keys.SortedEntryLemmas.{and-first}
use Rattle.epx_types.proofs.keys.SortedEntryLemmas.{and-second}

-- applying two lists of writes one after the other
pub apply_writes-append : (vs ws : List Write) (c : Contents)
    → apply_writes (vs ++ ws) c ≡ apply_writes ws (apply_writes vs c)
apply_writes-append [] ws c = refl
apply_writes-append (v ∷ vs) ws c = apply_writes-append vs ws (assign c v.0 v.1)

as_write_all : (ws : List Write) (c : Contents) → apply_writes ws c ≡ write_all assign ws c
as_write_all [] c = refl
as_write_all (w ∷ ws) c = as_write_all ws (assign c w.0 w.1)

option_map_same : {X : Type 0} (o : Option X) → option_map (λ x. x) o ≡ o
option_map_same None = refl
option_map_same (Some x) = refl

-- after writes by rising key, each written key has the value that was written
pub get-put_sorted : (ws : List Write) → T (is_sorted key_cmp ws) → (c : Contents) (q : List ℕ)
    → contents.get (apply_writes ws c) q ≡ unwrap_or (find key_cmp q ws) (contents.get c q)
get-put_sorted ws h c q =
    ap (λ m. contents.get m q) (as_write_all ws c)
    ∙ get-write_all assign (λ w. w) get-assign ws h c q
    ∙ ap (λ o. unwrap_or o (contents.get c q)) (option_map_same (find key_cmp q ws))

-- after writes by rising key, reading the written keys returns the writes
pub apply_writes-read_back : (ws : List Write) → T (is_sorted key_cmp ws) → (c : Contents)
    → map (λ k. (k, contents.get (apply_writes ws c) k)) (keys_of ws) ≡ ws
apply_writes-read_back [] h c = refl
apply_writes-read_back (w ∷ ws) h c =
    let here : contents.get (apply_writes ws (assign c w.0 w.1)) w.0 ≡ w.1 =
    get-put_sorted ws (and-second _ _ h) (assign c w.0 w.1) w.0
    ∙ ap (λ o. unwrap_or o (contents.get (assign c w.0 w.1) w.0))
    (find-below_all w.0 ws (and-first _ _ h))
    ∙ get-assign c w.0 w.1 w.0
    ∙ ap (λ o. cond (is_eq o) w.1 (contents.get c w.0)) (tied_itself key_cmp-IsTotalOrder w.0) in
    ap (λ v. (w.0, v) ∷ map (λ k. (k, contents.get (apply_writes ws (assign c w.0 w.1)) k))
    (keys_of ws)) here
    ∙ ap (λ vs. w ∷ vs) (apply_writes-read_back ws (and-second _ _ h) (assign c w.0 w.1))

-- ---- writes collected in a finite map

pub get-put_entries : (o : FinMap key_cmp (Option ℤ)) (c : Contents) (q : List ℕ)
    → contents.get (apply_writes (contents.entries o) c) q
    ≡ unwrap_or (contents.get o q) (contents.get c q)
get-put_entries o c q =
    get-put_sorted (contents.entries o) (entries_sorted o) c q
    ∙ ap (λ r. unwrap_or r (contents.get c q)) (sym (get-entries o q))

-- collecting one more write has the effect of that write
pub put_entries-insert : (o : FinMap key_cmp (Option ℤ)) (k : List ℕ) (w : Option ℤ) (c : Contents)
    → apply_writes (contents.entries (contents.insert o k w)) c
    ≡ assign (apply_writes (contents.entries o) c) k w
put_entries-insert o k w c =
    same_map key_cmp-IsTotalOrder key_cmp-IsAntisymmetric _ _ (λ q.
    get-put_entries (contents.insert o k w) c q
    ∙ ap (λ r. unwrap_or r (contents.get c q)) (get-insert key_cmp-IsTotalOrder o k w q)
    ∙ elim (eq_by_cmp key_cmp q k) as (λ b. unwrap_or (cond b (Some w) (contents.get o q))
    (contents.get c q) ≡ cond b w (unwrap_or (contents.get o q) (contents.get c q)))
    [ true ↦ refl | false ↦ refl ]
    ∙ ap (cond (eq_by_cmp key_cmp q k) w) (sym (get-put_entries o c q))
    ∙ sym (get-assign (apply_writes (contents.entries o) c) k w q))
