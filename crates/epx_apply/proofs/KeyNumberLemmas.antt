-- Keys that are numbered by an indexed set.
use Rattle.std.proofs.Common.{◌≡◌, inl, inr, ℕ, ◌<◌, Bool, true, false, not, ◌||◌, List, [], ◌∷◌}
use Rattle.std.proofs.Common.{◌++◌, length, map, get_or, Contains, Some, if◌then◌else◌, slice_get}
use Rattle.std.proofs.Common.{refl, sym, ap, subst, ◌∙◌, true≢false, Bor}
use Rattle.epx_types.proofs.Common.{bytes_eq, list_any, cases_Bool, map-append, slice_get_within}
use Rattle.epx_types.proofs.Common.{get_or_from_slice_get, bytes_eq-Decides, Contains-nil}
use Rattle.epx_types.proofs.Common.{Contains-cons_cases}
use Rattle.epx_types.specs.declared.op.Op.{Op}
use Rattle.epx_types.proofs.lists.ListPositionLemmas.{slice_get-map}
use Rattle.epx_apply.specs.declared.key_table.TableAccess.{TableAccess}
use Rattle.epx_apply.specs.declared.key_table.KeyLevels.{KeyLevels}
use Rattle.epx_apply.specs.between.KeyTables.{key_at, untouched_levels, IsKeyTableOf}
use Rattle.epx_apply.proofs.KeyTableLemmas.{IsKeyTableOf-add_key, IsKeyTableOf-access}

abbrev pub texts_of : List (Bor (List ℕ)) → List (List ℕ)
texts_of ks = map (λ k. k.now) ks

abbrev pub same_text : Bor (List ℕ) → Bor (List ℕ) → Bool
same_text j k = bytes_eq j.now k.now

pub not-flip : (b r : Bool) → not b ≡ r → b ≡ not r
not-flip true true e = absurd (true≢false (sym e))
not-flip true false e = refl
not-flip false true e = refl
not-flip false false e = absurd (true≢false e)

-- a key that equals no key of the set is not in it
absent : (k : Bor (List ℕ)) (ks : List (Bor (List ℕ))) → list_any (same_text k) ks ≡ false
    → ¬ Contains (texts_of ks) k.now
absent k [] none h = Contains-nil k.now h
absent k (j ∷ ks) none h =
    elim (cases_Bool (bytes_eq k.now j.now)) [
      | inl same ↦ true≢false (sym (ap (λ b. b || list_any (same_text k) ks) same) ∙ none)
      | inr other ↦ elim (Contains-cons_cases j.now (texts_of ks) k.now h) [
        | inl here ↦ true≢false (sym ((bytes_eq-Decides k.now j.now).1 (sym here)) ∙ other)
        | inr later ↦ absent k ks (sym (ap (λ b. b || list_any (same_text k) ks) other) ∙ none)
            later
      ]
    ]

at_number : {X : Type 0} (xs : List X) (i : ℕ) (x d : X) → slice_get xs i ≡ Some x
    → (i < length xs) × (get_or xs i d ≡ x)
at_number xs i x d e = (slice_get_within xs i x e, get_or_from_slice_get xs i x d e)

module _ (done : List (List Op × ℕ)) (current : List (List ℕ × Bool))
    (ks ks' : List (Bor (List ℕ))) (key_levels : List KeyLevels) (accesses : List TableAccess)
    (k : Bor (List ℕ)) (key : List ℕ) (w : Bool) (number : ℕ) (text : k.now ≡ key)
    (is : IsKeyTableOf done current
    (record { keys = texts_of ks; key_levels = key_levels; accesses = accesses }))
    (keys : ks' ≡ (if list_any (same_text k) ks then ks else ks ++ k ∷ []))
    (stored : (x : Bor (List ℕ)) × (slice_get ks' number ≡ Some x)
    × (bytes_eq k.now x.now ≡ true)) where
  at : (number < length (texts_of ks')) × (key_at (texts_of ks') number ≡ key)
  at =
      let read = at_number (texts_of ks') number stored.0.now []
      (slice_get-map (λ (j : Bor (List ℕ)). j.now) ks' number stored.0 stored.1) in
      (read.0, read.1 ∙ sym ((bytes_eq-Decides k.now stored.0.now).0 stored.2) ∙ text)

  pub IsKeyTableOf-new_key : list_any (same_text k) ks ≡ false
      → IsKeyTableOf done (current ++ (key, w) ∷ [])
      (record {
        keys = texts_of ks';
        key_levels = key_levels ++ untouched_levels ∷ [];
        accesses = accesses ++ record { key = number; writes = w } ∷ [];
      })
  IsKeyTableOf-new_key none =
      let pushed : texts_of ks' ≡ texts_of ks ++ k.now ∷ [] =
      ap texts_of (keys ∙ ap (λ b. if b then ks else ks ++ k ∷ []) none)
      ∙ map-append (λ (j : Bor (List ℕ)). j.now) ks (k ∷ []) in
      let grown = IsKeyTableOf-add_key done current
      (record { keys = texts_of ks; key_levels = key_levels; accesses = accesses }) is k.now
      (absent k ks none) in
      IsKeyTableOf-access done current
      (record {
        keys = texts_of ks';
        key_levels = key_levels ++ untouched_levels ∷ [];
        accesses = accesses;
      })
      (subst (λ qs. IsKeyTableOf done current
      (record {
        keys = qs;
        key_levels = key_levels ++ untouched_levels ∷ [];
        accesses = accesses;
      }))
      (sym pushed) grown) number key w at.0 at.1

  pub IsKeyTableOf-known_key : list_any (same_text k) ks ≡ true
      → IsKeyTableOf done (current ++ (key, w) ∷ [])
      (record {
        keys = texts_of ks';
        key_levels = key_levels;
        accesses = accesses ++ record { key = number; writes = w } ∷ [];
      })
  IsKeyTableOf-known_key found =
      let kept : ks' ≡ ks = keys ∙ ap (λ b. if b then ks else ks ++ k ∷ []) found in
      IsKeyTableOf-access done current
      (record { keys = texts_of ks'; key_levels = key_levels; accesses = accesses })
      (subst (λ qs. IsKeyTableOf done current
      (record { keys = texts_of qs; key_levels = key_levels; accesses = accesses })) (sym kept)
      is) number key w at.0 at.1
