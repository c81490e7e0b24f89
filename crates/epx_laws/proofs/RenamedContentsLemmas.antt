-- Contents under new names: what is read of them, and what is assigned to them.
use Rattle.std.proofs.Common.{◌≡◌, ◌⊎◌, ℕ, ℤ, Bool, true, false, cond, not, ◌&&◌, int_lt, List, []}
use Rattle.std.proofs.Common.{◌∷◌, map, Option, Some, None, option_map, refl, sym, ap, ap₂, ◌∙◌}
use Rattle.std.proofs.Common.{subst, inl, inr}
use Rattle.epx_types.proofs.Common.{Decides, eq_by_cmp, is_eq, Less, Equal, Greater, get-empty}
use Rattle.epx_types.proofs.Common.{get-entries, get-from_entries, key_cmp, Contents, assign}
use Rattle.epx_types.proofs.Common.{same_value, key_cmp-IsTotalOrder, key_cmp-cases}
use Rattle.epx_types.proofs.Common.{Contents-extensional, get-assign}
use Rattle.epx_types.proofs.Common.{get-assign_cases}
use Rattle.std.specs.FinMap as contents
use Rattle.std.specs.FinMap.{find}
use Rattle.std.proofs.lemmas.Bool.Decides.{same_from_decides, Decides-at, Decides-int_eq}
use Rattle.epx_laws.specs.Renaming.{Renaming, renamed_value, renamed_contents}

-- an option is Some or None
some_or_none : {X : Type 0} (o : Option X) → ((x : X) × (o ≡ Some x)) ⊎ (o ≡ None)
some_or_none None = inr refl
some_or_none (Some x) = inl (x, refl)

option_map-cond : {X Y : Type 0} (f : X → Y) (b : Bool) (o p : Option X)
    → cond b (option_map f o) (option_map f p) ≡ option_map f (cond b o p)
option_map-cond f true o p = refl
option_map-cond f false o p = refl

neither_test : (a b : Bool) → (not a && not b) ≡ is_eq (cond a Less (cond b Greater Equal))
neither_test true b = refl
neither_test false true = refl
neither_test false false = refl

-- numbers of which neither is less are equal
neither_less : (v w : ℤ) → Decides (not (int_lt v w) && not (int_lt w v)) (v ≡ w)
neither_less v w = Decides-at _ _ (neither_test (int_lt v w) (int_lt w v)) (Decides-int_eq v w)

module _ (r : Renaming) where
  -- ---- comparisons

  -- renamed keys are equal exactly if the keys are
  same_test : (j k : List ℕ) → eq_by_cmp key_cmp (r.key j) (r.key k) ≡ eq_by_cmp key_cmp j k
  same_test j k =
      elim (key_cmp-cases j k) [
        | inl same ↦ elim (key_cmp-cases (r.key j) (r.key k)) [
          | inl same' ↦ same'.0 ∙ sym same.0
          | inr other' ↦ absurd (other'.1 (ap r.key same.1))
        ]
        | inr other ↦ elim (key_cmp-cases (r.key j) (r.key k)) [
          | inl same' ↦ absurd (other.1 (r.keys_injective j k same'.1))
          | inr other' ↦ other'.0 ∙ sym other.0
        ]
      ]

  -- and renamed values are equal exactly if the values are
  pub same_value-renamed : (v w : Option ℤ)
      → same_value (renamed_value r v) (renamed_value r w) ≡ same_value v w
  same_value-renamed None None = refl
  same_value-renamed None (Some w) = refl
  same_value-renamed (Some v) None = refl
  same_value-renamed (Some v) (Some w) =
      let there = neither_less (r.value v) (r.value w) in
      same_from_decides _ _
      (λ h. r.values_injective v w (there.0 h), λ e. there.1 (ap r.value e))
      (neither_less v w)

  -- ---- reading

  abbrev renamed_entry : List ℕ × ℤ → List ℕ × ℤ
  renamed_entry e = (r.key e.0, r.value e.1)

  find-renamed : (es : List (List ℕ × ℤ)) (k : List ℕ)
      → find key_cmp (r.key k) (map renamed_entry es) ≡ renamed_value r (find key_cmp k es)
  find-renamed [] k = refl
  find-renamed (e ∷ es) k =
      ap₂ (λ b o. cond b (Some (r.value e.1)) o) (same_test k e.0) (find-renamed es k)
      ∙ option_map-cond r.value (eq_by_cmp key_cmp k e.0) (Some e.1) (find key_cmp k es)

  find-name : (es : List (List ℕ × ℤ)) (q : List ℕ) (w : ℤ)
      → find key_cmp q (map renamed_entry es) ≡ Some w → (k : List ℕ) × (r.key k ≡ q)
  find-name [] q w found = absurd (cc found)
  find-name (e ∷ es) q w found =
      elim (key_cmp-cases q (r.key e.0)) [
        | inl same ↦ (e.0, sym same.1)
        | inr other ↦ find-name es q w (rw other.0 at found)
      ]

  -- a renamed key has the renamed value
  pub get-renamed : (c : Contents) (k : List ℕ)
      → contents.get (renamed_contents r c) (r.key k) ≡ renamed_value r (contents.get c k)
  get-renamed c k =
      get-from_entries key_cmp-IsTotalOrder (map renamed_entry (contents.entries c)) (r.key k)
      ∙ find-renamed (contents.entries c) k
      ∙ ap (renamed_value r) (sym (get-entries c k))

  -- a key that is present is a renamed key
  pub get-name : (c : Contents) (q : List ℕ) (w : ℤ)
      → contents.get (renamed_contents r c) q ≡ Some w → (k : List ℕ) × (r.key k ≡ q)
  get-name c q w found =
      find-name (contents.entries c) q w
      (sym (get-from_entries key_cmp-IsTotalOrder (map renamed_entry (contents.entries c)) q)
      ∙ found)

  -- and no other is
  pub get-other : (c : Contents) (q : List ℕ) → ((k : List ℕ) → ¬ (r.key k ≡ q))
      → contents.get (renamed_contents r c) q ≡ None
  get-other c q other =
      elim (some_or_none (contents.get (renamed_contents r c) q)) [
        | inl found ↦ let k = get-name c q found.0 found.1 in absurd (other k.0 k.1)
        | inr none ↦ none
      ]

  -- contents that are read so are the renamed contents
  same_renamed : (c d : Contents)
      → ((k : List ℕ) → contents.get d (r.key k) ≡ renamed_value r (contents.get c k))
      → ((q : List ℕ) (w : ℤ) → contents.get d q ≡ Some w → (k : List ℕ) × (r.key k ≡ q))
      → d ≡ renamed_contents r c
  same_renamed c d named only = Contents-extensional d (renamed_contents r c) by where
    at_name : (q : List ℕ) → (k : List ℕ) × (r.key k ≡ q)
        → contents.get d q ≡ contents.get (renamed_contents r c) q
    at_name q k =
        subst (λ p. contents.get d p ≡ contents.get (renamed_contents r c) p) k.1
        (named k.0 ∙ sym (get-renamed c k.0))

    by : (q : List ℕ) → contents.get d q ≡ contents.get (renamed_contents r c) q
    by q =
        elim (some_or_none (contents.get d q)) [
          | inl here ↦ at_name q (only q here.0 here.1)
          | inr none ↦ elim (some_or_none (contents.get (renamed_contents r c) q)) [
            | inl there ↦ at_name q (get-name c q there.0 there.1)
            | inr none' ↦ none ∙ sym none'
          ]
        ]

  -- ---- writing

  -- assigning a renamed value to a renamed key
  pub assign-renamed : (c : Contents) (k : List ℕ) (v : Option ℤ)
      → assign (renamed_contents r c) (r.key k) (renamed_value r v)
      ≡ renamed_contents r (assign c k v)
  assign-renamed c k v = same_renamed (assign c k v) _ named only where
    named : (j : List ℕ)
        → contents.get (assign (renamed_contents r c) (r.key k) (renamed_value r v)) (r.key j)
        ≡ renamed_value r (contents.get (assign c k v) j)
    named j =
        get-assign (renamed_contents r c) (r.key k) (renamed_value r v) (r.key j)
        ∙ ap₂ (λ b o. cond b (renamed_value r v) o) (same_test j k) (get-renamed c j)
        ∙ option_map-cond r.value (eq_by_cmp key_cmp j k) v (contents.get c j)
        ∙ ap (renamed_value r) (sym (get-assign c k v j))

    only : (q : List ℕ) (w : ℤ)
        → contents.get (assign (renamed_contents r c) (r.key k) (renamed_value r v)) q ≡ Some w
        → (j : List ℕ) × (r.key j ≡ q)
    only q w found =
        elim (get-assign_cases (renamed_contents r c) (r.key k) (renamed_value r v) q) [
          | inl here ↦ (k, sym here.0)
          | inr other ↦ get-name c q w (sym other.1 ∙ found)
        ]

  -- nothing has a new name in the empty contents
  pub renamed_contents-empty : renamed_contents r contents.empty ≡ contents.empty
  renamed_contents-empty =
      sym (same_renamed contents.empty contents.empty
      (λ k. get-empty key_cmp (r.key k) ∙ sym (ap (renamed_value r) (get-empty key_cmp k)))
      (λ q w found. absurd (cc (found, get-empty {X = ℤ} key_cmp q))))
