-- Tables when keys and commands are added.
use Rattle.std.proofs.Common.{◌≡◌, ◌⊎◌, inl, inr, ℕ, suc, max, ◌+◌, ◌<◌, ◌≤◌, Bool, true, List, []}
use Rattle.std.proofs.Common.{◌∷◌, ◌++◌, length, flat_map, get_or, take, fold, if◌then◌else◌}
use Rattle.std.proofs.Common.{Contains, All, refl, sym, ap, ap₂, subst, ◌∙◌, arith, append-nil}
use Rattle.std.proofs.Common.{append_assoc}
use Rattle.epx_types.proofs.Common.{cases_lt, cases_Bool, map-append, length_push}
use Rattle.epx_types.proofs.Common.{get_or_append_left, get_or_push, take_all, take_more}
use Rattle.epx_types.proofs.Common.{flat_map_more, Contains-get_or, Contains-append_left}
use Rattle.epx_types.proofs.Common.{Contains-push_cases, Conflict, Contains-nil, Contains-map}
use Rattle.epx_types.proofs.Common.{Contains-from_map, map-agree, Contains-rising_keys}
use Rattle.epx_types.proofs.Common.{Contains-from_rising_keys, accesses_of, touched_by, written_by}
use Rattle.epx_types.specs.declared.op.Op.{Op}
use Rattle.epx_apply.specs.declared.key_table.KeyLevels.{KeyLevels}
use Rattle.epx_apply.specs.declared.key_table.TableAccess.{TableAccess}
use Rattle.epx_apply.specs.between.KeyTables.{KeyTableView, untouched_levels, key_levels_at, key_at}
use Rattle.epx_apply.specs.between.KeyTables.{touched_in}
use Rattle.epx_apply.specs.between.KeyTables.{written_in, IsLevelAbove, IsKeyTableOf, IsLeastAbove}
use Rattle.epx_apply.specs.between.KeyTables.{CollectsCommand, NotesCommand}
use Rattle.epx_apply.specs.inner.LevelTables.{AddsAccesses, level_for, raise, IsLevelTableOf}
use Rattle.epx_apply.specs.inner.LevelTables.{AddsCommand}
use Rattle.epx_apply.proofs.AccessLemmas.{current-from_touched, touched-from_accesses}
use Rattle.epx_apply.proofs.AccessLemmas.{current-from_written, written-from_accesses}
use Rattle.epx_apply.proofs.AccessLemmas.{touched-from_written}
use Rattle.epx_apply.proofs.KeyLevelLemmas.{IsLevelAbove-raised, IsLevelAbove-kept, fold-above}
use Rattle.epx_apply.proofs.KeyLevelLemmas.{fold-reached, length-raised, touchers-raised}
use Rattle.epx_apply.proofs.KeyLevelLemmas.{writers-raised}

-- ---- adding a key

pub AddsAccesses-nil : (t : KeyTableView) → AddsAccesses [] t t
AddsAccesses-nil t done current is = let P : List (List ℕ × Bool)
    → Type 0 = λ l. IsKeyTableOf done l t in subst P (sym (append-nil current)) is

pub AddsAccesses-append : (xs ys : List (List ℕ × Bool)) (a b c : KeyTableView)
    → AddsAccesses xs a b
    → AddsAccesses ys b c → AddsAccesses (xs ++ ys) a c
AddsAccesses-append xs ys a b c first second done current is =
    let P : List (List ℕ × Bool) → Type 0 = λ l. IsKeyTableOf done l c in
    subst P (append_assoc current xs ys) (second done (current ++ xs) (first done current is))

-- the keys of the accesses of a table
abbrev current_at : List (List ℕ) → TableAccess → List ℕ × Bool
current_at keys a = (key_at keys a.key, a.writes)

module _ (done : List (List Op × ℕ)) (current : List (List ℕ × Bool)) (t : KeyTableView)
    (is : IsKeyTableOf done current t) where
  -- a key that is in the table
  pub IsKeyTableOf-access : (x : ℕ) (k : List ℕ) (w : Bool) → x < length t.keys
      → key_at t.keys x ≡ k
      → IsKeyTableOf done (current ++ (k, w) ∷ [])
      (record {
        keys = t.keys;
        key_levels = t.key_levels;
        accesses = t.accesses ++ record { key = x; writes = w } ∷ [];
      })
  IsKeyTableOf-access x k w low at = record {
    known = is.known;
    no_repeats = is.no_repeats;
    key_levels = is.key_levels;
    touchers = is.touchers;
    writers = is.writers;
    current_keys = map-append (current_at t.keys) t.accesses (record { key = x; writes = w } ∷ [])
        ∙ ap₂ (λ (l : List (List ℕ × Bool)) (q : List ℕ). l ++ (q, w) ∷ []) is.current_keys at;
    within = λ a h. elim (Contains-push_cases t.accesses (record { key = x; writes = w }) a h) [
      | inl old ↦ is.within a old
      | inr new ↦ subst (λ (b : TableAccess). b.key < length t.keys) new low
    ];
  }

  -- a key that is new to the table
  pub IsKeyTableOf-add_key : (k : List ℕ) → ¬ Contains t.keys k
      → IsKeyTableOf done current
      (record {
        keys = t.keys ++ k ∷ [];
        key_levels = t.key_levels ++ untouched_levels ∷ [];
        accesses = t.accesses;
      })
  IsKeyTableOf-add_key k fresh = record {
    known = λ ops l q c h. Contains-append_left t.keys (k ∷ []) q (is.known ops l q c h);
    no_repeats = no_repeats;
    key_levels = length_push t.key_levels untouched_levels ∙ ap (λ n. n + 1) is.key_levels
        ∙ sym (length_push t.keys k);
    touchers = λ x low. elim (position x low) [
      | inl (old, key, at_key) ↦ at touched_in x key at_key (λ (b : KeyLevels). b.touchers)
          (is.touchers x old)
      | inr (key, at_key) ↦ none touched_in x key (λ (b : KeyLevels). b.touchers) refl at_key
          (λ ops h. h)
    ];
    writers = λ x low. elim (position x low) [
      | inl (old, key, at_key) ↦ at written_in x key at_key (λ (b : KeyLevels). b.writers)
          (is.writers x old)
      | inr (key, at_key) ↦ none written_in x key (λ (b : KeyLevels). b.writers) refl at_key
          (λ ops h. touched-from_written ops k h)
    ];
    current_keys = map-agree (current_at (t.keys ++ k ∷ [])) (current_at t.keys) t.accesses
        (λ a h. ap (λ (q : List ℕ). (q, a.writes))
        (get_or_append_left t.keys (k ∷ []) [] a.key (is.within a h))) ∙ is.current_keys;
    within = λ a h. omega (arith, is.within a h, length_push t.keys k);
  } where
    position : (x : ℕ) → x < length (t.keys ++ k ∷ [])
        → ((x < length t.keys) × (key_at (t.keys ++ k ∷ []) x ≡ key_at t.keys x)
        × (key_levels_at (t.key_levels ++ untouched_levels ∷ []) x
        ≡ key_levels_at t.key_levels x))
        ⊎ ((key_at (t.keys ++ k ∷ []) x ≡ k)
        × (key_levels_at (t.key_levels ++ untouched_levels ∷ []) x ≡ untouched_levels))
    position x low =
        elim (cases_lt x (length t.keys)) [
          | inl old ↦ inl (
            old,
            get_or_append_left t.keys (k ∷ []) [] x old,
            get_or_append_left t.key_levels (untouched_levels ∷ []) untouched_levels x
                (omega (arith, is.key_levels)),
          )
          | inr new ↦
              let same : length t.keys ≡ x = omega (arith, length_push t.keys k) in
              inr (
                get_or_push t.keys k [] x same,
                get_or_push t.key_levels untouched_levels untouched_levels x
                    (is.key_levels ∙ same),
              )
        ]

    at : (keys_of : List Op → List (List ℕ)) (x : ℕ)
        → key_at (t.keys ++ k ∷ []) x ≡ key_at t.keys x
        → key_levels_at (t.key_levels ++ untouched_levels ∷ []) x
        ≡ key_levels_at t.key_levels x
        → (side : KeyLevels → ℕ) → IsLevelAbove keys_of done (key_at t.keys x)
        (side (key_levels_at t.key_levels x))
        → IsLevelAbove keys_of done (key_at (t.keys ++ k ∷ []) x)
        (side (key_levels_at (t.key_levels ++ untouched_levels ∷ []) x))
    at keys_of x key at_key side h =
        subst (λ q. IsLevelAbove keys_of done q
        (side (key_levels_at (t.key_levels ++ untouched_levels ∷ []) x))) (sym key)
        (subst (λ b. IsLevelAbove keys_of done (key_at t.keys x) (side b)) (sym at_key) h)

    -- no command has the key
    none : (keys_of : List Op → List (List ℕ)) (x : ℕ) → key_at (t.keys ++ k ∷ []) x ≡ k
        → (side : KeyLevels → ℕ) → side untouched_levels ≡ 0
        → key_levels_at (t.key_levels ++ untouched_levels ∷ []) x ≡ untouched_levels
        → ((ops : List Op) → Contains (keys_of ops) k → Contains (touched_in ops) k)
        → IsLevelAbove keys_of done (key_at (t.keys ++ k ∷ []) x)
        (side (key_levels_at (t.key_levels ++ untouched_levels ∷ []) x))
    none keys_of x key side low at_key touch =
        subst (λ q. IsLevelAbove keys_of done q
        (side (key_levels_at (t.key_levels ++ untouched_levels ∷ []) x))) (sym key) (record {
          above = λ ops l c h. absurd (fresh (is.known ops l k c (touch ops h)));
          reached = inl (ap side at_key ∙ low);
        })

    no_repeats : (x y : ℕ) → x < length (t.keys ++ k ∷ []) → y < length (t.keys ++ k ∷ [])
        → key_at (t.keys ++ k ∷ []) x ≡ key_at (t.keys ++ k ∷ []) y → x ≡ y
    no_repeats x y low low' same =
        elim (cases_lt x (length t.keys)) [
          | inl here ↦ elim (cases_lt y (length t.keys)) [
            | inl there ↦ is.no_repeats x y here there
                (sym (get_or_append_left t.keys (k ∷ []) [] x here) ∙ same
                ∙ get_or_append_left t.keys (k ∷ []) [] y there)
            | inr last ↦
                let at_last : length t.keys ≡ y = omega (arith, length_push t.keys k) in
                let is_k : key_at t.keys x ≡ k = sym (get_or_append_left t.keys (k ∷ []) [] x here)
                ∙ same ∙ get_or_push t.keys k [] y at_last in
                absurd (fresh (subst (Contains t.keys) is_k (Contains-get_or t.keys x [] here)))
          ]
          | inr last ↦
              let at_last : length t.keys ≡ x = omega (arith, length_push t.keys k) in
              elim (cases_lt y (length t.keys)) [
                | inl there ↦
                    let is_k : key_at t.keys y ≡ k =
                    sym (get_or_append_left t.keys (k ∷ []) [] y there) ∙ sym same
                    ∙ get_or_push t.keys k [] x at_last in
                    absurd (fresh (subst (Contains t.keys) is_k
                    (Contains-get_or t.keys y [] there)))
                | inr too ↦ omega (arith, length_push t.keys k)
              ]
        ]

-- ---- adding a command

module _ (done : List (List Op × ℕ)) (ops : List Op) (t : KeyTableView)
    (is : IsKeyTableOf done (flat_map accesses_of ops) t) where
  level : ℕ
  level = fold (λ level a. max level (level_for t.key_levels a)) 0 t.accesses

  -- the access of a key of the command
  access_of : (k : List ℕ) (w : Bool)
      → Contains {X = List ℕ × Bool} (flat_map accesses_of ops) (k, w)
      → (a : TableAccess) × Contains t.accesses a × (key_at t.keys a.key ≡ k) × (a.writes ≡ w)
  access_of k w h =
      let from = Contains-from_map (current_at t.keys) t.accesses (k, w)
      (subst (λ (l : List (List ℕ × Bool)). Contains {X = List ℕ × Bool} l (k, w))
      (sym is.current_keys) h) in (
        from.0,
        from.1,
        ap (λ (a : List ℕ × Bool). a.0) from.2,
        ap (λ (a : List ℕ × Bool). a.1) from.2,
      )

  current_of : (a : TableAccess) → Contains t.accesses a
      → Contains {X = List ℕ × Bool} (flat_map accesses_of ops) (key_at t.keys a.key, a.writes)
  current_of a h =
      subst (λ (l : List (List ℕ × Bool)). Contains {X = List ℕ × Bool} l
      (key_at t.keys a.key, a.writes)) is.current_keys
      (Contains-map (current_at t.keys) t.accesses a h)

  -- the access with the number of a key
  access_at : (x : ℕ) → x < length t.keys → (w : Bool)
      → Contains {X = List ℕ × Bool} (flat_map accesses_of ops) (key_at t.keys x, w)
      → Contains t.accesses (record { key = x; writes = w })
  access_at x low w h =
      let a = access_of (key_at t.keys x) w h in
      let same : a.0.key ≡ x = is.no_repeats a.0.key x (is.within a.0 a.1) low a.2 in
      subst (λ y. Contains t.accesses (record { key = y; writes = w })) same
      (subst (λ v. Contains t.accesses (record { key = a.0.key; writes = v })) a.3 a.1)

  -- the level for an access of a key that an earlier command writes, or for a write of a key that
  -- it touches, is above that command
  above_written : (a : TableAccess) → Contains t.accesses a → (earlier : List Op) (l : ℕ)
      → Contains done (earlier, l) → Contains (written_in earlier) (key_at t.keys a.key)
      → l < level_for t.key_levels a
  above_written a c earlier l d h =
      elim (cases_Bool a.writes) [
        | inl writes ↦ let low = (is.touchers a.key (is.within a c)).above earlier l d
            (touched-from_written earlier (key_at t.keys a.key) h) in rw writes low
        | inr reads ↦ let low = (is.writers a.key (is.within a c)).above earlier l d h in
            rw reads low
      ]

  above_touched : (a : TableAccess) → Contains t.accesses a → a.writes ≡ true
      → (earlier : List Op) (l : ℕ) → Contains done (earlier, l)
      → Contains (touched_in earlier) (key_at t.keys a.key) → l < level_for t.key_levels a
  above_touched a c writes earlier l d h = let low =
      (is.touchers a.key (is.within a c)).above earlier l d h in rw writes low

  above : (earlier : List Op) (l : ℕ) → Contains done (earlier, l) → Conflict earlier ops
      → l < fold (λ level a. max level (level_for t.key_levels a)) 0 t.accesses
  above earlier l d (k, either) =
      elim either [
        | inl (w, r) ↦
            let adds_access = current-from_touched ops k
            (Contains-from_rising_keys (flat_map touched_by ops) k r) in
            let a = access_of k adds_access.0 adds_access.1 in
            let low = above_written a.0 a.1 earlier l d
            (subst (Contains (written_in earlier)) (sym a.2)
            (Contains-from_rising_keys (flat_map written_by earlier) k w)) in
            omega (arith, fold-above t.key_levels 0 t.accesses a.0 a.1)
        | inr (r, w) ↦
            let a = access_of k true
            (current-from_written ops k
            (Contains-from_rising_keys (flat_map written_by ops) k w)) in
            let low = above_touched a.0 a.1 a.3 earlier l d
            (subst (Contains (touched_in earlier)) (sym a.2)
            (Contains-from_rising_keys (flat_map touched_by earlier) k r)) in
            omega (arith, fold-above t.key_levels 0 t.accesses a.0 a.1)
      ]

  -- the level for an access is 0 or one above a command that conflicts
  level_reached : (a : TableAccess) → Contains t.accesses a
      → (level_for t.key_levels a ≡ 0)
      ⊎ ((earlier : List Op) × (l : ℕ) × Contains done (earlier, l) × Conflict earlier ops
      × (level_for t.key_levels a ≡ suc l))
  level_reached a c =
      let k = key_at t.keys a.key in
      let adds_access = current_of a c in
      elim (cases_Bool a.writes) [
        | inl writes ↦
            let is_level_above : level_for t.key_levels a
            ≡ (key_levels_at t.key_levels a.key).touchers =
            ap (λ b. if b then (key_levels_at t.key_levels a.key).touchers else
            (key_levels_at t.key_levels a.key).writers) writes in
            let written = written-from_accesses ops k
            (subst (λ v. Contains {X = List ℕ × Bool} (flat_map accesses_of ops) (k, v)) writes
            adds_access) in
            elim (is.touchers a.key (is.within a c)).reached [
              | inl none ↦ inl (is_level_above ∙ none)
              | inr (o, l, d, h, e) ↦ inr (
                o,
                l,
                d,
                (
                  k,
                  inr (
                    Contains-rising_keys (flat_map touched_by o) k h,
                    Contains-rising_keys (flat_map written_by ops) k written,
                  ),
                ),
                is_level_above ∙ e,
              )
            ]
        | inr reads ↦
            let is_level_above : level_for t.key_levels a
            ≡ (key_levels_at t.key_levels a.key).writers =
            ap (λ b. if b then (key_levels_at t.key_levels a.key).touchers else
            (key_levels_at t.key_levels a.key).writers) reads in
            let touched = touched-from_accesses ops k a.writes adds_access in
            elim (is.writers a.key (is.within a c)).reached [
              | inl none ↦ inl (is_level_above ∙ none)
              | inr (o, l, d, h, e) ↦ inr (
                o,
                l,
                d,
                (
                  k,
                  inl (
                    Contains-rising_keys (flat_map written_by o) k h,
                    Contains-rising_keys (flat_map touched_by ops) k touched,
                  ),
                ),
                is_level_above ∙ e,
              )
            ]
      ]

  pub IsLeastAbove-fold : IsLeastAbove done ops
      (fold (λ level a. max level (level_for t.key_levels a)) 0 t.accesses)
  IsLeastAbove-fold = record {
    above = above;
    reached = elim (fold-reached t.key_levels 0 t.accesses) [
      | inl none ↦ inl none
      | inr (a, c, e) ↦ elim (level_reached a c) [
        | inl none ↦ inl (e ∙ none)
        | inr (o, l, d, meets, at) ↦ inr (o, l, d, meets, e ∙ at)
      ]
    ];
  }

  -- the command is done, with any number
  pub IsKeyTableOf-noted : (number : ℕ) (key_levels : List KeyLevels)
      → key_levels ≡ fold (raise (number + 1)) t.key_levels t.accesses
      → IsKeyTableOf (done ++ (ops, number) ∷ []) []
      (record { keys = t.keys; key_levels = key_levels; accesses = [] })
  IsKeyTableOf-noted number key_levels are_levels_above = record {
    known = λ o l k c h. elim (Contains-push_cases done (ops, number) (o, l) c) [
      | inl old ↦ is.known o l k old h
      | inr new ↦
          let adds_access = current-from_touched ops k
          (subst (λ (e : List Op × ℕ). Contains (touched_in e.0) k) (sym new) h) in
          let a = access_of k adds_access.0 adds_access.1 in
          subst (Contains t.keys) a.2 (Contains-get_or t.keys a.0.key [] (is.within a.0 a.1))
    ];
    no_repeats = is.no_repeats;
    key_levels = ap length are_levels_above ∙ length-raised (number + 1) t.accesses t.key_levels
        ∙ is.key_levels;
    touchers = touchers;
    writers = writers;
    current_keys = refl;
    within = λ a h. absurd (Contains-nil a h);
  } where
    touchers : (x : ℕ) → x < length t.keys
        → IsLevelAbove touched_in (done ++ (ops, number) ∷ []) (key_at t.keys x)
        (key_levels_at key_levels x).touchers
    touchers x low =
        let before = is.touchers x low in
        let at : (key_levels_at key_levels x).touchers
        ≡ (key_levels_at (fold (raise (number + 1)) t.key_levels t.accesses) x).touchers =
        ap (λ (bs : List KeyLevels). (key_levels_at bs x).touchers) are_levels_above in
        elim (touchers-raised (number + 1) t.accesses t.key_levels x
        (omega (arith, is.key_levels))) [
          | inl ((w, c), e) ↦
              let now : (key_levels_at key_levels x).touchers
              ≡ max (key_levels_at t.key_levels x).touchers (suc number) =
              at ∙ e ∙ ap (max (key_levels_at t.key_levels x).touchers) (omega arith) in
              subst (IsLevelAbove touched_in (done ++ (ops, number) ∷ []) (key_at t.keys x))
              (sym now)
              (IsLevelAbove-raised touched_in done ops number (key_at t.keys x)
              (key_levels_at t.key_levels x).touchers before
              (touched-from_accesses ops (key_at t.keys x) w
              (current_of (record { key = x; writes = w }) c)))
          | inr (none, e) ↦
              subst (IsLevelAbove touched_in (done ++ (ops, number) ∷ []) (key_at t.keys x))
              (sym (at ∙ e))
              (IsLevelAbove-kept touched_in done ops number (key_at t.keys x)
              (key_levels_at t.key_levels x).touchers before
              (λ h. let adds_access = current-from_touched ops (key_at t.keys x) h in
              none adds_access.0 (access_at x low adds_access.0 adds_access.1)))
        ]

    writers : (x : ℕ) → x < length t.keys
        → IsLevelAbove written_in (done ++ (ops, number) ∷ []) (key_at t.keys x)
        (key_levels_at key_levels x).writers
    writers x low =
        let before = is.writers x low in
        let at : (key_levels_at key_levels x).writers
        ≡ (key_levels_at (fold (raise (number + 1)) t.key_levels t.accesses) x).writers =
        ap (λ (bs : List KeyLevels). (key_levels_at bs x).writers) are_levels_above in
        elim (writers-raised (number + 1) t.accesses t.key_levels x
        (omega (arith, is.key_levels))) [
          | inl (c, e) ↦
              let now : (key_levels_at key_levels x).writers
              ≡ max (key_levels_at t.key_levels x).writers (suc number) =
              at ∙ e ∙ ap (max (key_levels_at t.key_levels x).writers) (omega arith) in
              subst (IsLevelAbove written_in (done ++ (ops, number) ∷ []) (key_at t.keys x))
              (sym now)
              (IsLevelAbove-raised written_in done ops number (key_at t.keys x)
              (key_levels_at t.key_levels x).writers before
              (written-from_accesses ops (key_at t.keys x)
              (current_of (record { key = x; writes = true }) c)))
          | inr (none, e) ↦
              subst (IsLevelAbove written_in (done ++ (ops, number) ∷ []) (key_at t.keys x))
              (sym (at ∙ e))
              (IsLevelAbove-kept written_in done ops number (key_at t.keys x)
              (key_levels_at t.key_levels x).writers before
              (λ h. none
              (access_at x low true (current-from_written ops (key_at t.keys x) h))))
        ]

-- ---- levels, which are below the number of commands

pub IsLevelTableOf-nil : (t : KeyTableView) → IsKeyTableOf [] [] t → IsLevelTableOf [] t
IsLevelTableOf-nil t is = record { small = λ ops l c. absurd (Contains-nil (ops, l) c); table = is }

pub IsLeastAbove-within : (done : List (List Op × ℕ)) (ops : List Op) (t : KeyTableView) (level : ℕ)
    → IsLevelTableOf done t → IsLeastAbove done ops level → level ≤ length done
IsLeastAbove-within done ops t level is next =
    elim next.reached [
      | inl none ↦ omega arith
      | inr (o, l, d, meets, e) ↦ let low = is.small o l d in omega arith
    ]

pub AddsCommand-from_parts : (ops : List Op) (level : ℕ) (a b c : KeyTableView)
    → CollectsCommand ops level a b
    → NotesCommand level b c → AddsCommand ops level a c
AddsCommand-from_parts ops level a b c collects notes done is =
    let found = collects done is.table in (
      found.0,
      record {
        small = λ o l h. elim (Contains-push_cases done (ops, level) (o, l) h) [
          | inl old ↦ let low = is.small o l old in omega (arith, length_push done (ops, level))
          | inr new ↦ let same : level ≡ l = ap (λ (e : List Op × ℕ). e.1) new in
              omega (
                arith,
                IsLeastAbove-within done ops a level is found.0,
                length_push done (ops, level),
              )
        ];
        table = notes done ops found.1;
      },
    )

-- ---- adding the keys of a command, operation by operation

pub AddsAccesses-take_more : (ops : List Op) (i : ℕ) (op : Op) (a b c : KeyTableView)
    → i < length ops
    → op ≡ get_or ops i op → AddsAccesses (flat_map accesses_of (take i ops)) a b
    → AddsAccesses (accesses_of op) b c
    → AddsAccesses (flat_map accesses_of (take (i + 1) ops)) a c
AddsAccesses-take_more ops i op a b c within is_op first second =
    let more : flat_map accesses_of (take (i + 1) ops)
    ≡ flat_map accesses_of (take i ops) ++ accesses_of op =
    ap (flat_map accesses_of)
    (take_more ops i op within ∙ ap (λ (o : Op). take i ops ++ o ∷ []) (sym is_op))
    ∙ sym (flat_map_more accesses_of [] (take i ops) op) in
    subst (λ (l : List (List ℕ × Bool)). AddsAccesses l a c) (sym more)
    (AddsAccesses-append (flat_map accesses_of (take i ops)) (accesses_of op) a b c first
    second)

pub IsKeyTableOf-all_accesses : (ops : List Op) (i : ℕ) (a b : KeyTableView) → length ops ≤ i
    → AddsAccesses (flat_map accesses_of (take i ops)) a b → (done : List (List Op × ℕ))
    → IsKeyTableOf done [] a → IsKeyTableOf done (flat_map accesses_of ops) b
IsKeyTableOf-all_accesses ops i a b past adds_access done is =
    subst (λ (l : List Op). IsKeyTableOf done (flat_map accesses_of l) b) (take_all i ops past)
    (adds_access done [] is)

-- each number of a key has levels
pub keys-within : (done : List (List Op × ℕ)) (current : List (List ℕ × Bool)) (t : KeyTableView)
    → IsKeyTableOf done current t → All (λ a. a.key < length t.key_levels) t.accesses
keys-within done current t is k d low =
    omega (
      arith,
      is.within (get_or t.accesses k d) (Contains-get_or t.accesses k d low),
      is.key_levels,
    )
