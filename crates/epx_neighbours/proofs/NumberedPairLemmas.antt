-- Touches that the walk joins are those of neighbours.
use Rattle.std.proofs.Common.{◌≡◌, ◌⊎◌, inl, inr, ℕ, ◌<◌, ◌≤◌, Bool, true, List, length}
use Rattle.std.proofs.Common.{Contains, AllPairs, IsTrue, refl, sym, ap, subst, ◌∙◌, arith}
use Rattle.epx_types.proofs.Common.{cases_lt, false≢true, Contains-some_or_none, is_lt-cases}
use Rattle.epx_types.proofs.Common.{is_lt-irrefl, Contains-get_or, get_or_default}
use Rattle.epx_neighbours.specs.declared.key_touch.KeyTouch.{KeyTouch}
use Rattle.epx_neighbours.specs.declared.neighbours.Neighbours.{Neighbours}
use Rattle.epx_neighbours.specs.inner.KeyTouches.{key_touch_at, TouchBelow}
use Rattle.epx_neighbours.specs.inner.NumberedPairs.{HasTouch, HasWrite, AreNumbered}
use Rattle.epx_neighbours.proofs.TouchOrderLemmas.{IsLowerTouch-from_below, touch_cmp-IsTotalOrder}
use Rattle.epx_neighbours.proofs.TouchOrderLemmas.{touch_cmp-IsAntisymmetric}
use Rattle.epx_neighbours.proofs.WalkLemmas.{Joins}

abbrev touch : ℕ → ℕ → Bool → KeyTouch
touch k p w = record { key = k; position = p; writes = w }

module _ (touches : List KeyTouch) (rising : AllPairs TouchBelow touches) where
  abbrev at : ℕ → KeyTouch
  at i = key_touch_at touches i

  -- the index of a touch
  index_of : (t : KeyTouch) → Contains touches t
      → (i : ℕ) × (i < length touches) × (at i ≡ t)
  index_of t h = (h.0, h.1, get_or_default touches h.0 _ t h.1 ∙ h.2)

  there : (i : ℕ) → i < length touches → Contains touches (at i)
  there i l = Contains-get_or touches i _ l

  -- a touch of the same key at an earlier position comes first
  first_by_position : (j i : ℕ) → j < length touches → i < length touches
      → (at j).key ≡ (at i).key → (at j).position < (at i).position → j < i
  first_by_position j i m l same less = elim (cases_lt j i) [
    | inl below ↦ below
    | inr upto ↦ elim (cases_lt i j) [
      | inl above ↦ absurd (elim (IsLowerTouch-from_below (at i) (at j) (rising i j _ above m)) [
        | inl k ↦ omega (arith, k, same)
        | inr (e, inl p) ↦ omega (arith, p, less)
        | inr (e, inr p) ↦ omega (arith, p.0, less)
      ])
      | inr level ↦
          let e : j ≡ i = omega arith in
          let positions : (at j).position ≡ (at i).position = ap (λ k. (at k).position) e in
          absurd (omega (arith, positions, less))
    ]
  ]

  -- between two touches of one key are touches of this key, at positions between theirs
  key_between : (j t i : ℕ) → j < t → t < i → i < length touches → (at j).key ≡ (at i).key
      → (at t).key ≡ (at i).key
  key_between j t i after before l same =
      elim (IsLowerTouch-from_below (at j) (at t) (rising j t _ after (omega arith))) [
        | inl less ↦ elim (IsLowerTouch-from_below (at t) (at i) (rising t i _ before l)) [
          | inl k ↦ absurd (omega (arith, less, k, same))
          | inr e ↦ e.0
        ]
        | inr e ↦ sym e.0 ∙ same
      ]

  position_upto : (t i : ℕ) → t < i → i < length touches → (at t).key ≡ (at i).key
      → (at t).position ≤ (at i).position
  position_upto t i before l same =
      elim (IsLowerTouch-from_below (at t) (at i) (rising t i _ before l)) [
        | inl k ↦ absurd (omega (arith, k, same))
        | inr (e, inl p) ↦ omega (arith, p)
        | inr (e, inr p) ↦ omega (arith, p.0)
      ]

  -- a touch before another one at the same position does not write
  reads_before : (t i : ℕ) → t < i → i < length touches → (at t).key ≡ (at i).key
      → (at t).position ≡ (at i).position → ¬ IsTrue (at t).writes
  reads_before t i before l same level wrote =
      elim (IsLowerTouch-from_below (at t) (at i) (rising t i _ before l)) [
        | inl k ↦ omega (arith, k, same)
        | inr (e, inl p) ↦ omega (arith, p, level)
        | inr (e, inr p) ↦ false≢true (sym p.1 ∙ wrote)
      ]

  write_there : (i k p : ℕ) → i < length touches → (at i).key ≡ k → (at i).position ≡ p
      → IsTrue (at i).writes → HasWrite touches p k
  write_there i k p l key position wrote =
      subst (Contains touches) (λ d. record {
        key = key d;
        position = position d;
        writes = wrote d;
      }) (there i l)

  touch_there : (i k p : ℕ) → i < length touches → (at i).key ≡ k → (at i).position ≡ p
      → HasTouch touches p k
  touch_there i k p l key position = (
    (at i).writes,
    subst (Contains touches) (λ d. record {
      key = key d;
      position = position d;
      writes = (at i).writes;
    }) (there i l),
  )

  -- ---- joined touches are of neighbours

  pub AreNumbered-from_joins : (x : Neighbours) (i j : ℕ) → i < length touches → Joins touches i x j
      → AreNumbered touches x
  AreNumbered-from_joins x i j l join =
      subst (AreNumbered touches) (sym join.is) (record {
        rises = join.rises;
        conflict = elim join.one [
          | inl wrote ↦ inl (
            write_there j (at i).key (at j).position m join.key refl wrote,
            touch_there i (at i).key (at i).position l refl refl,
          )
          | inr writing ↦ inr (
            touch_there j (at i).key (at j).position m join.key refl,
            write_there i (at i).key (at i).position l refl refl writing,
          )
        ];
        next = λ p after before h.
            let t = index_of (touch (at i).key p true) h in
            let key = ap (λ (s : KeyTouch). s.key) t.2 in
            let position = ap (λ (s : KeyTouch). s.position) t.2 in
            let wrote : IsTrue (at t.0).writes = ap (λ (s : KeyTouch). s.writes) t.2 in
            join.none t.0
            (first_by_position j t.0 m t.1 (join.key ∙ sym key)
            (omega (arith, position, after)))
            (first_by_position t.0 i t.1 l key (omega (arith, position, before))) wrote;
      })
    where
      m : j < length touches
      m = omega (arith, join.below, l)

  -- ---- neighbours have joined touches

  HasWrite-cases : (p k : ℕ) → HasWrite touches p k ⊎ (¬ HasWrite touches p k)
  HasWrite-cases p k = elim (Contains-some_or_none (λ t. t ≡ touch k p true) decide touches) [
    | inl found ↦ inl (subst (Contains touches) found.2 found.1)
    | inr none ↦ inr (λ h. none (touch k p true) h refl)
  ] where
    decide : (t : KeyTouch) → (t ≡ touch k p true) ⊎ (¬ (t ≡ touch k p true))
    decide t =
        elim (is_lt-cases touch_cmp-IsTotalOrder touch_cmp-IsAntisymmetric t (touch k p true)) [
          | inl lower ↦ inr (λ same. is_lt-irrefl touch_cmp-IsTotalOrder (touch k p true)
              (subst (λ (s : KeyTouch). TouchBelow s (touch k p true)) same lower))
          | inr (inl same) ↦ inl same
          | inr (inr higher) ↦ inr (λ same. is_lt-irrefl touch_cmp-IsTotalOrder (touch k p true)
              (subst (λ (s : KeyTouch). TouchBelow (touch k p true) s) same higher))
        ]

  -- no command between writes the key, nor does the first command, if its touch reads
  joined : (x : Neighbours) (w v : Bool)
      → x.before < x.after → ((p : ℕ) → x.before < p → p < x.after → ¬ HasWrite touches p x.key)
      → IsTrue w ⊎ ((¬ HasWrite touches x.before x.key) × IsTrue v)
      → Contains touches (touch x.key x.before w) → Contains touches (touch x.key x.after v)
      → (i j : ℕ) × (i < length touches) × Joins touches i x j
  joined x w v rises next one first second = (
    i.0,
    j.0,
    i.1,
    record {
      below = below;
      key = key_j ∙ sym key_i;
      one = elim one [ inl wrote ↦ inl (writes_j ∙ wrote) | inr r ↦ inr (writes_i ∙ r.1) ];
      none = none;
      rises = less;
      is = λ d. record { before = sym place_j d; after = sym place_i d; key = sym key_i d };
    },
  ) where
    j : (n : ℕ) × (n < length touches) × (at n ≡ touch x.key x.before w)
    j = index_of (touch x.key x.before w) first

    i : (n : ℕ) × (n < length touches) × (at n ≡ touch x.key x.after v)
    i = index_of (touch x.key x.after v) second

    key_j : (at j.0).key ≡ x.key
    key_j = ap (λ (s : KeyTouch). s.key) j.2

    key_i : (at i.0).key ≡ x.key
    key_i = ap (λ (s : KeyTouch). s.key) i.2

    place_j : (at j.0).position ≡ x.before
    place_j = ap (λ (s : KeyTouch). s.position) j.2

    place_i : (at i.0).position ≡ x.after
    place_i = ap (λ (s : KeyTouch). s.position) i.2

    writes_j : (at j.0).writes ≡ w
    writes_j = ap (λ (s : KeyTouch). s.writes) j.2

    writes_i : (at i.0).writes ≡ v
    writes_i = ap (λ (s : KeyTouch). s.writes) i.2

    less : (at j.0).position < (at i.0).position
    less = omega (arith, place_j, place_i, rises)

    below : j.0 < i.0
    below = first_by_position j.0 i.0 j.1 i.1 (key_j ∙ sym key_i) less

    none : (t : ℕ) → j.0 < t → t < i.0 → ¬ IsTrue (at t).writes
    none t after before wrote =
        let l : t < length touches = omega (arith, before, i.1) in
        let key_t : (at t).key ≡ (at i.0).key =
        key_between j.0 t i.0 after before i.1 (key_j ∙ sym key_i) in
        let from : (at j.0).position ≤ (at t).position =
        position_upto j.0 t after l (key_j ∙ sym (key_t ∙ key_i)) in
        let upto : (at t).position ≤ (at i.0).position =
        position_upto t i.0 before i.1 key_t in
        elim (cases_lt (at t).position (at i.0).position) [
          | inl early ↦ elim (cases_lt (at j.0).position (at t).position) [
            | inl late ↦ next (at t).position (omega (arith, place_j, late))
                (omega (arith, place_i, early))
                (write_there t x.key (at t).position l (key_t ∙ key_i) refl wrote)
            | inr level ↦
                let same : (at j.0).position ≡ (at t).position = omega (arith, level, from) in
                elim one [
                  | inl writing ↦ reads_before j.0 t after l (key_j ∙ sym (key_t ∙ key_i)) same
                      (writes_j ∙ writing)
                  | inr r ↦ r.0 (write_there t x.key x.before l (key_t ∙ key_i)
                      (sym same ∙ place_j) wrote)
                ]
          ]
          | inr level ↦
              let same : (at t).position ≡ (at i.0).position = omega (arith, level, upto) in
              reads_before t i.0 before i.1 key_t same wrote
        ]

  pub Joins-from_numbered : (x : Neighbours) → AreNumbered touches x
      → (i j : ℕ) × (i < length touches) × Joins touches i x j
  Joins-from_numbered x n = elim n.conflict [
    | inl (first, second) ↦
        joined x true second.0 n.rises n.next (inl refl) first second.1
    | inr (first, second) ↦ elim (HasWrite-cases x.before x.key) [
      | inl wrote ↦ joined x true true n.rises n.next (inl refl) wrote second
      | inr reads ↦ joined x first.0 true n.rises n.next (inr (reads, refl)) first.1 second
    ]
  ]
