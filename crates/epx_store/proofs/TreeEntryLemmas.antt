-- The entries of a tree map are those of a finite map.
use Rattle.std.proofs.Common.{◌≡◌, ℕ, ◌∙◌, refl, sym, ap, subst, T, cond, List, [], ◌∷◌, Option}
use Rattle.std.proofs.Common.{Some, None}
use Rattle.epx_types.proofs.Common.{eq_by_cmp, is_lt, Less, keys_of, lookup, BTreeMap, is_at}
use Rattle.epx_types.proofs.Common.{AllByRecursion, FinMap, is_sorted, get-from_entries, below_all}
use Rattle.epx_types.proofs.Common.{key_cmp, key_cmp-IsTotalOrder, key_cmp-IsAntisymmetric}
use Rattle.std.specs.declared.cmp.Ordering.{Ordering}
use Rattle.std.specs.Cmp.{eq_by_cmp_equiv}
use Rattle.std.specs.BTreeMap.{Updates}
use Rattle.std.specs.List.Sorted.{IsStrictlySortedBy}
use Rattle.std.proofs.lemmas.Map.Keys.{sorted_head, sorted_tail}
use Rattle.std.specs.FinMap as contents
use Rattle.std.specs.FinMap.{find, same_map, get-insert, get-remove}
use Rattle.epx_store.proofs.RisingEntryLemmas.{T-both}

module _ {X : Type 0} where
  -- a look-up in a tree's entries is a look-up in the finite map's
  pub find-lookup : (q : List ℕ) (es : List (List ℕ × X))
      → find key_cmp q es ≡ lookup (is_at (key_cmp q)) es
  find-lookup q [] = refl
  find-lookup q (e ∷ es) = ap (cond (eq_by_cmp key_cmp q e.0) (Some e.1)) (find-lookup q es)

  below_all-from_order : (k : List ℕ) (es : List (List ℕ × X))
      → AllByRecursion (λ y. key_cmp k y ≡ Less) (keys_of es) → T (below_all key_cmp k es)
  below_all-from_order k [] h = tt
  below_all-from_order k (e ∷ es) h =
      T-both _ _ (subst (λ (o : Ordering). T (is_lt o)) (sym h.0) tt)
      (below_all-from_order k es h.1)

  -- a tree's keys rise
  pub is_sorted-from_order : (es : List (List ℕ × X)) → IsStrictlySortedBy key_cmp (keys_of es)
      → T (is_sorted key_cmp es)
  is_sorted-from_order [] h = tt
  is_sorted-from_order (e ∷ es) h =
      T-both _ _ (below_all-from_order e.0 es (sorted_head key_cmp e.0 (keys_of es) h))
      (is_sorted-from_order es (sorted_tail key_cmp e.0 (keys_of es) h))

  -- the finite map of a tree's entries has under each key what the tree has
  pub get-found : (es : List (List ℕ × X)) (q : List ℕ)
      → contents.get (contents.from_entries {R = key_cmp} es) q ≡ lookup (is_at (key_cmp q)) es
  get-found es q = get-from_entries key_cmp-IsTotalOrder es q ∙ find-lookup q es

  same_after : (m : FinMap key_cmp X) (k q : List ℕ) (w : Option X)
      → cond (is_at (key_cmp k) q) w (contents.get m q)
      ≡ cond (eq_by_cmp key_cmp q k) w (contents.get m q)
  same_after m k q w = ap (λ b. cond b w (contents.get m q))
      ((eq_by_cmp_equiv key_cmp-IsTotalOrder).symm k q)

  -- an insertion into a tree is one into the finite map
  pub from_entries-inserted : (m n : BTreeMap (List ℕ) X) (k : List ℕ) (v : X)
      → Updates key_cmp m n k (Some v) → contents.from_entries {R = key_cmp} n.entries
      ≡ contents.insert (contents.from_entries m.entries) k v
  from_entries-inserted m n k v u =
      same_map key_cmp-IsTotalOrder key_cmp-IsAntisymmetric _ _ (λ q.
      get-found n.entries q
      ∙ u.0 q
      ∙ ap (cond (is_at (key_cmp k) q) (Some v)) (sym (get-found m.entries q))
      ∙ same_after (contents.from_entries m.entries) k q (Some v)
      ∙ sym (get-insert key_cmp-IsTotalOrder (contents.from_entries m.entries) k v q))

  -- a removal from a tree is one from the finite map
  pub from_entries-removed : (m n : BTreeMap (List ℕ) X) (k : List ℕ) → Updates key_cmp m n k None
      → contents.from_entries {R = key_cmp} n.entries
      ≡ contents.remove (contents.from_entries m.entries) k
  from_entries-removed m n k u =
      same_map key_cmp-IsTotalOrder key_cmp-IsAntisymmetric _ _ (λ q.
      get-found n.entries q
      ∙ u.0 q
      ∙ ap (cond (is_at (key_cmp k) q) None) (sym (get-found m.entries q))
      ∙ same_after (contents.from_entries m.entries) k q None
      ∙ sym (get-remove key_cmp-IsTotalOrder (contents.from_entries m.entries) k q))
