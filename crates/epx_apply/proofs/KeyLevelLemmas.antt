-- The levels of a key when a command is added to the table.
use Rattle.std.proofs.Common.{◌≡◌, ◌⊎◌, inl, inr, ℕ, suc, max, ◌<◌, ◌≤◌, Bool, true, List, [], ◌∷◌}
use Rattle.std.proofs.Common.{◌++◌, length, fold, if◌then◌else◌, Contains, refl, sym, ap, subst}
use Rattle.std.proofs.Common.{◌∙◌, true≢false, arith}
use Rattle.epx_types.proofs.Common.{cases_lt, cases_eq, cases_Bool, length-set, get_or-set_same}
use Rattle.epx_types.proofs.Common.{get_or-set_other, Contains-append_left, Contains-push}
use Rattle.epx_types.proofs.Common.{Contains-push_cases, Contains-nil, Contains-head, Contains-cons}
use Rattle.epx_types.proofs.Common.{Contains-cons_cases}
use Rattle.epx_types.specs.declared.op.Op.{Op}
use Rattle.epx_apply.specs.declared.key_table.KeyLevels.{KeyLevels}
use Rattle.epx_apply.specs.declared.key_table.TableAccess.{TableAccess}
use Rattle.epx_apply.specs.between.KeyTables.{untouched_levels, key_levels_at, IsLevelAbove}
use Rattle.epx_apply.specs.inner.LevelTables.{level_for, raise}

-- ---- one more command

module _ (keys_of : List Op → List (List ℕ)) (done : List (List Op × ℕ)) (ops : List Op)
    (level : ℕ) (k : List ℕ) (n : ℕ) (is : IsLevelAbove keys_of done k n) where
  -- a command that has the key
  pub IsLevelAbove-raised : Contains (keys_of ops) k
      → IsLevelAbove keys_of (done ++ (ops, level) ∷ []) k (max n (suc level))
  IsLevelAbove-raised has = record {
    above = λ o l c h. elim (Contains-push_cases done (ops, level) (o, l) c) [
      | inl old ↦ let low = is.above o l old h in omega arith
      | inr new ↦ let same : level ≡ l = ap (λ (e : List Op × ℕ). e.1) new in omega arith
    ];
    reached = elim (cases_lt (suc level) n) [
      | inl higher ↦ elim is.reached [
        | inl none ↦ absurd (omega arith)
        | inr (o, l, c, h, e) ↦ inr (
          o,
          l,
          Contains-append_left done ((ops, level) ∷ []) (o, l) c,
          h,
          omega arith,
        )
      ]
      | inr lower ↦ inr (ops, level, Contains-push done (ops, level), has, omega arith)
    ];
  }

  -- a command that does not have the key
  pub IsLevelAbove-kept : ¬ Contains (keys_of ops) k
      → IsLevelAbove keys_of (done ++ (ops, level) ∷ []) k n
  IsLevelAbove-kept lacks = record {
    above = λ o l c h. elim (Contains-push_cases done (ops, level) (o, l) c) [
      | inl old ↦ is.above o l old h
      | inr new ↦ absurd
          (lacks (subst (λ (e : List Op × ℕ). Contains (keys_of e.0) k) (sym new) h))
    ];
    reached = elim is.reached [
      | inl none ↦ inl none
      | inr (o, l, c, h, e) ↦ inr (
        o,
        l,
        Contains-append_left done ((ops, level) ∷ []) (o, l) c,
        h,
        e,
      )
    ];
  }

-- ---- the least level that all accesses allow

module _ (key_levels : List KeyLevels) where
  fold_from : (m : ℕ) (accesses : List TableAccess)
      → m ≤ fold (λ level a. max level (level_for key_levels a)) m accesses
  fold_from m [] = omega arith
  fold_from m (a ∷ accesses) = let rest = fold_from (max m (level_for key_levels a)) accesses in
      omega arith

  -- it is at least the level for each access
  pub fold-above : (m : ℕ) (accesses : List TableAccess) (a : TableAccess) → Contains accesses a
      → level_for key_levels a ≤ fold (λ level a. max level (level_for key_levels a)) m accesses
  fold-above m [] a h = absurd (Contains-nil a h)
  fold-above m (b ∷ accesses) a h =
      elim (Contains-cons_cases b accesses a h) [
        | inl same ↦
            let rest = fold_from (max m (level_for key_levels b)) accesses in
            let at : level_for key_levels b ≡ level_for key_levels a =
            ap (level_for key_levels) same in
            omega arith
        | inr later ↦ fold-above (max m (level_for key_levels b)) accesses a later
      ]

  -- it is the level for one of them, or the initial level
  pub fold-reached : (m : ℕ) (accesses : List TableAccess)
      → (fold (λ level a. max level (level_for key_levels a)) m accesses ≡ m)
      ⊎ ((a : TableAccess) × Contains accesses a
      × (fold (λ level a. max level (level_for key_levels a)) m accesses ≡ level_for key_levels a))
  fold-reached m [] = inl refl
  fold-reached m (b ∷ accesses) =
      elim (fold-reached (max m (level_for key_levels b)) accesses) [
        | inl first ↦ elim (cases_lt m (level_for key_levels b)) [
          | inl low ↦ inr (b, Contains-head b accesses, omega arith)
          | inr high ↦ inl (omega arith)
        ]
        | inr (a, c, e) ↦ inr (a, Contains-cons b accesses a c, e)
      ]

-- ---- raising the levels for one access after another

module _ (n : ℕ) where
  pub length-raised : (accesses : List TableAccess) (key_levels : List KeyLevels)
      → length (fold (raise n) key_levels accesses) ≡ length key_levels
  length-raised [] key_levels = refl
  length-raised (a ∷ accesses) key_levels =
      length-raised accesses (raise n key_levels a) ∙ length-set key_levels a.key _

  -- the new `touchers` of a key
  pub touchers-raised : (accesses : List TableAccess) (key_levels : List KeyLevels) (x : ℕ)
      → x < length key_levels →
      (((w : Bool) × Contains accesses (record { key = x; writes = w }))
      × ((key_levels_at (fold (raise n) key_levels accesses) x).touchers
      ≡ max (key_levels_at key_levels x).touchers n))
      ⊎ (((w : Bool) → ¬ Contains accesses (record { key = x; writes = w }))
      × ((key_levels_at (fold (raise n) key_levels accesses) x).touchers
      ≡ (key_levels_at key_levels x).touchers))
  touchers-raised [] key_levels x low =
      inr (λ w h. Contains-nil (record { key = x; writes = w }) h, refl)
  touchers-raised (a ∷ accesses) key_levels x low =
      let rest = touchers-raised accesses (raise n key_levels a) x (omega (
        arith,
        low,
        length-set key_levels a.key (record {
          writers = if a.writes then max (key_levels_at key_levels a.key).writers n else
              (key_levels_at key_levels a.key).writers;
          touchers = max (key_levels_at key_levels a.key).touchers n;
        }),
      )) in
      elim (cases_eq x a.key) [
        | inl same ↦
            let now : (key_levels_at (raise n key_levels a) x).touchers
            ≡ max (key_levels_at key_levels x).touchers n =
            subst (λ y. (key_levels_at (raise n key_levels a) y).touchers
            ≡ max (key_levels_at key_levels y).touchers n) (sym same)
            (ap (λ (b : KeyLevels). b.touchers)
            (get_or-set_same key_levels a.key _ untouched_levels
            (subst (λ y. y < length key_levels) same low))) in
            let here : Contains (a ∷ accesses) (record { key = x; writes = a.writes }) =
            subst (λ y. Contains (a ∷ accesses) (record { key = y; writes = a.writes }))
            (sym same) (Contains-head a accesses) in
            elim rest [
              | inl (later, e) ↦ inl ((a.writes, here), omega arith)
              | inr (none, e) ↦ inl ((a.writes, here), omega arith)
            ]
        | inr other ↦
            let kept : (key_levels_at (raise n key_levels a) x).touchers
            ≡ (key_levels_at key_levels x).touchers =
            ap (λ (b : KeyLevels). b.touchers)
            (get_or-set_other key_levels a.key x _ untouched_levels other) in
            elim rest [
              | inl (later, e) ↦ inl (
                (
                  later.0,
                  Contains-cons a accesses (record { key = x; writes = later.0 })
                      later.1,
                ),
                e ∙ ap (λ t. max t n) kept,
              )
              | inr (none, e) ↦ inr (
                λ w h. elim (Contains-cons_cases a accesses (record { key = x; writes = w }) h) [
                  | inl here ↦ other (sym (ap (λ (b : TableAccess). b.key) here))
                  | inr later ↦ none w later
                ],
                e ∙ kept,
              )
            ]
      ]

  -- the new `writers` of a key
  pub writers-raised : (accesses : List TableAccess) (key_levels : List KeyLevels) (x : ℕ)
      → x < length key_levels →
      (Contains accesses (record { key = x; writes = true })
      × ((key_levels_at (fold (raise n) key_levels accesses) x).writers
      ≡ max (key_levels_at key_levels x).writers n))
      ⊎ ((¬ Contains accesses (record { key = x; writes = true }))
      × ((key_levels_at (fold (raise n) key_levels accesses) x).writers
      ≡ (key_levels_at key_levels x).writers))
  writers-raised [] key_levels x low =
      inr (λ h. Contains-nil (record { key = x; writes = true }) h, refl)
  writers-raised (a ∷ accesses) key_levels x low =
      let rest = writers-raised accesses (raise n key_levels a) x (omega (
        arith,
        low,
        length-set key_levels a.key (record {
          writers = if a.writes then max (key_levels_at key_levels a.key).writers n else
              (key_levels_at key_levels a.key).writers;
          touchers = max (key_levels_at key_levels a.key).touchers n;
        }),
      )) in
      elim (cases_eq x a.key) [
        | inl same ↦
            let now : (key_levels_at (raise n key_levels a) x).writers
            ≡ (if a.writes then max (key_levels_at key_levels x).writers n else
            (key_levels_at key_levels x).writers) =
            subst (λ y. (key_levels_at (raise n key_levels a) y).writers
            ≡ (if a.writes then max (key_levels_at key_levels y).writers n else
            (key_levels_at key_levels y).writers)) (sym same)
            (ap (λ (b : KeyLevels). b.writers)
            (get_or-set_same key_levels a.key _ untouched_levels
            (subst (λ y. y < length key_levels) same low))) in
            let here : Contains (a ∷ accesses) (record { key = x; writes = a.writes }) =
            subst (λ y. Contains (a ∷ accesses) (record { key = y; writes = a.writes }))
            (sym same) (Contains-head a accesses) in
            elim (cases_Bool a.writes) [
              | inl writes ↦
                  let up : (key_levels_at (raise n key_levels a) x).writers
                  ≡ max (key_levels_at key_levels x).writers n =
                  now ∙ ap (λ b. if b then max (key_levels_at key_levels x).writers n else
                  (key_levels_at key_levels x).writers) writes in
                  let written : Contains (a ∷ accesses) (record { key = x; writes = true }) =
                  subst (λ b. Contains (a ∷ accesses) (record { key = x; writes = b })) writes
                  here in
                  elim rest [
                    | inl (later, e) ↦ inl (written, omega arith)
                    | inr (none, e) ↦ inl (written, omega arith)
                  ]
              | inr reads ↦
                  let kept : (key_levels_at (raise n key_levels a) x).writers
                  ≡ (key_levels_at key_levels x).writers =
                  now ∙ ap (λ b. if b then max (key_levels_at key_levels x).writers n else
                  (key_levels_at key_levels x).writers) reads in
                  elim rest [
                    | inl (later, e) ↦ inl (
                      Contains-cons a accesses (record { key = x; writes = true }) later,
                      e ∙ ap (λ t. max t n) kept,
                    )
                    | inr (none, e) ↦ inr (
                      λ h. elim (Contains-cons_cases a accesses (record { key = x; writes = true })
                          h) [
                            | inl at ↦ true≢false
                                (sym (ap (λ (b : TableAccess). b.writes) at) ∙ reads)
                            | inr later ↦ none later
                          ],
                      e ∙ kept,
                    )
                  ]
            ]
        | inr other ↦
            let kept : (key_levels_at (raise n key_levels a) x).writers
            ≡ (key_levels_at key_levels x).writers =
            ap (λ (b : KeyLevels). b.writers)
            (get_or-set_other key_levels a.key x _ untouched_levels other) in
            elim rest [
              | inl (later, e) ↦ inl (
                Contains-cons a accesses (record { key = x; writes = true })
                    later,
                e ∙ ap (λ t. max t n) kept,
              )
              | inr (none, e) ↦ inr (
                λ h. elim (Contains-cons_cases a accesses (record { key = x; writes = true }) h) [
                  | inl here ↦ other (sym (ap (λ (b : TableAccess). b.key) here))
                  | inr later ↦ none later
                ],
                e ∙ kept,
              )
            ]
      ]
