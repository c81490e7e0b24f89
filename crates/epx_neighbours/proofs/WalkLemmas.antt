-- The invariant of the walk over the touches.
use Rattle.std.proofs.Common.{◌≡◌, ◌≢◌, ◌↔◌, ◌⊎◌, inl, inr, ℕ, ◌+◌, ◌<◌, ◌≤◌, Bool}
use Rattle.std.proofs.Common.{List, [], length, Contains, AllPairs, IsTrue, sym, ap, subst}
use Rattle.std.proofs.Common.{◌∙◌, arith}
use Rattle.epx_types.proofs.Common.{cases_lt, Contains-nil}
use Rattle.epx_neighbours.specs.declared.key_touch.KeyTouch.{KeyTouch}
use Rattle.epx_neighbours.specs.declared.neighbours.Neighbours.{Neighbours}
use Rattle.epx_neighbours.specs.inner.KeyTouches.{key_touch_at, TouchBelow}
use Rattle.epx_neighbours.specs.inner.NumberedPairs.{IsMadeBy}
use Rattle.epx_neighbours.proofs.TouchOrderLemmas.{IsLowerTouch-from_below}

-- touches j and i are of one key, one of them writes, and no touch between them does
pub record Joins (touches : List KeyTouch) (i : ℕ) (x : Neighbours) (j : ℕ) : Type 0 where
  pub below : j < i
  pub key : (key_touch_at touches j).key ≡ (key_touch_at touches i).key
  pub one : IsTrue (key_touch_at touches j).writes ⊎ IsTrue (key_touch_at touches i).writes
  pub none : (t : ℕ) → j < t → t < i → ¬ IsTrue (key_touch_at touches t).writes
  pub rises : (key_touch_at touches j).position < (key_touch_at touches i).position
  pub is : x ≡ record {
    before = (key_touch_at touches j).position;
    after = (key_touch_at touches i).position;
    key = (key_touch_at touches i).key;
  }

abbrev pub AreFoundUpTo : List KeyTouch → ℕ → List Neighbours → Type 0
AreFoundUpTo touches n found = (x : Neighbours) → Contains found x
    ↔ ((i j : ℕ) × (i < n) × Joins touches i x j)

-- of the first n touches, last_writer is the last one that writes, or the first one of its key
pub record IsLastWriter (touches : List KeyTouch) (last_writer n : ℕ) : Type 0 where
  pub within : last_writer ≤ n
  pub some : 0 < n → last_writer < n
  pub alike : (j : ℕ) → last_writer ≤ j → j < n
      → (key_touch_at touches j).key ≡ (key_touch_at touches last_writer).key
  pub reads : (j : ℕ) → last_writer < j → j < n → ¬ IsTrue (key_touch_at touches j).writes
  pub before : (j : ℕ) → j < last_writer
      → (key_touch_at touches j).key ≡ (key_touch_at touches last_writer).key
      → IsTrue (key_touch_at touches last_writer).writes

-- the earlier touches of the key of touch n begin with last_writer, or go on before it if it
-- writes
pub record IsStart (touches : List KeyTouch) (last_writer n : ℕ) : Type 0 where
  pub within : last_writer ≤ n
  pub alike : (j : ℕ) → last_writer ≤ j → j ≤ n
      → (key_touch_at touches j).key ≡ (key_touch_at touches n).key
  pub reads : (j : ℕ) → last_writer < j → j < n → ¬ IsTrue (key_touch_at touches j).writes
  pub before : (j : ℕ) → j < last_writer
      → (key_touch_at touches j).key ≡ (key_touch_at touches n).key
      → (last_writer < n) × IsTrue (key_touch_at touches last_writer).writes

module _ (touches : List KeyTouch) where
  abbrev key : ℕ → ℕ
  key i = (key_touch_at touches i).key

  abbrev writes : ℕ → Bool
  writes i = (key_touch_at touches i).writes

  module _ (rising : AllPairs TouchBelow touches) where
    -- keys do not fall
    pub key-rising : (j i : ℕ) → j < i → i < length touches → key j ≤ key i
    key-rising j i below l =
        elim (IsLowerTouch-from_below (key_touch_at touches j) (key_touch_at touches i)
        (rising j i _ below l)) [
          | inl less ↦ omega arith
          | inr same ↦ omega (arith, same.0)
        ]

    -- the first touch of its key
    pub IsStart-new_key : (last_writer n : ℕ) → n < length touches → key n ≢ key last_writer
        → IsLastWriter touches last_writer n → IsStart touches n n
    IsStart-new_key last_writer n l differs old = record {
      within = omega arith;
      alike = λ j from upto. let same : j ≡ n = omega arith in ap key same;
      reads = λ j from below. absurd (omega arith);
      before = λ j below same. absurd (elim (cases_lt j last_writer) [
        | inl past ↦
            let up = key-rising j last_writer past (omega (arith, l, old.some (omega arith))) in
            let on = key-rising last_writer n (old.some (omega arith)) l in
            differs (omega (arith, up, on, same))
        | inr here ↦ differs (sym same ∙ old.alike j here below)
      ]);
    }

  -- a further touch of the key
  pub IsStart-same_key : (last_writer n : ℕ) → key n ≡ key last_writer
      → IsLastWriter touches last_writer n → IsStart touches last_writer n
  IsStart-same_key last_writer n same old = record {
    within = old.within;
    alike = λ j from upto. elim (cases_lt j n) [
      | inl past ↦ old.alike j from past ∙ sym same
      | inr here ↦ let is : j ≡ n = omega arith in ap key is
    ];
    reads = old.reads;
    before = λ j below alike.
        (old.some (omega arith), old.before j below (alike ∙ same));
  }

  -- a touch that writes
  pub IsLastWriter-writer : (n : ℕ) → IsTrue (writes n) → IsLastWriter touches n (n + 1)
  IsLastWriter-writer n writing = record {
    within = omega arith;
    some = λ l. omega arith;
    alike = λ j from below. let same : j ≡ n = omega arith in ap key same;
    reads = λ j from below. absurd (omega arith);
    before = λ j below same. writing;
  }

  -- a touch that reads
  pub IsLastWriter-reader : (last_writer n : ℕ) → ¬ IsTrue (writes n)
      → IsStart touches last_writer n
      → IsLastWriter touches last_writer (n + 1)
  IsLastWriter-reader last_writer n reading start = record {
    within = omega (arith, start.within);
    some = λ l. omega (arith, start.within);
    alike = λ j from below.
        start.alike j from (omega arith) ∙ sym (start.alike last_writer (omega arith) start.within);
    reads = λ j from below. elim (cases_lt j n) [
      | inl past ↦ start.reads j from past
      | inr here ↦
          let same : n ≡ j = omega arith in subst (λ i. ¬ IsTrue (writes i)) same reading
    ];
    before = λ j below same. (start.before j below
        (same ∙ start.alike last_writer (omega arith) start.within)).1;
  }

  -- the neighbours that touch n makes
  pub IsMadeBy-iff_joins : (last_writer n : ℕ) → IsStart touches last_writer n → (x : Neighbours)
      → ((j : ℕ) × IsMadeBy touches last_writer n x j) ↔ ((j : ℕ) × Joins touches n x j)
  IsMadeBy-iff_joins last_writer n start x = (forth, back) where
    forth : ((j : ℕ) × IsMadeBy touches last_writer n x j) → (j : ℕ) × Joins touches n x j
    forth (j, made) = (
      j,
      record {
        below = made.below;
        key = start.alike j made.from (omega (arith, made.below));
        one = elim made.one [ inl w ↦ inr w | inr r ↦ inl r.1 ];
        none = λ t after before. start.reads t (omega (arith, made.from)) before;
        rises = made.rises;
        is = made.is;
      },
    )

    from_start : (j : ℕ) → Joins touches n x j → last_writer ≤ j
    from_start j join = elim (cases_lt j last_writer) [
      | inl past ↦ let w = start.before j past join.key in
          absurd (join.none last_writer past w.0 w.1)
      | inr here ↦ here
    ]

    either : (j : ℕ) → Joins touches n x j
        → IsTrue (writes n) ⊎ ((j ≡ last_writer) × IsTrue (writes j))
    either j join = elim join.one [
      | inl wrote ↦ elim (cases_lt last_writer j) [
        | inl behind ↦ absurd (start.reads j behind join.below wrote)
        | inr up ↦ inr (omega (arith, up, from_start j join), wrote)
      ]
      | inr writing ↦ inl writing
    ]

    back : ((j : ℕ) × Joins touches n x j) → (j : ℕ) × IsMadeBy touches last_writer n x j
    back (j, join) = (
      j,
      record {
        from = from_start j join;
        below = join.below;
        one = either j join;
        rises = join.rises;
        is = join.is;
      },
    )

  -- those of the first n touches and those of touch n
  pub AreFoundUpTo-step : (last_writer n : ℕ) (found now : List Neighbours)
      → IsStart touches last_writer n → AreFoundUpTo touches n found
      → ((x : Neighbours) → Contains now x
      ↔ (Contains found x ⊎ ((j : ℕ) × IsMadeBy touches last_writer n x j)))
      → AreFoundUpTo touches (n + 1) now
  AreFoundUpTo-step last_writer n found now start old step x = (
    λ h. elim ((step x).0 h) [
      | inl was ↦ let w = (old x).0 was in (w.0, w.1, omega (arith, w.2), w.3)
      | inr made ↦ let join = (IsMadeBy-iff_joins last_writer n start x).0 made in
          (n, join.0, omega arith, join.1)
    ],
    λ (i, j, l, join). (step x).1 (elim (cases_lt i n) [
      | inl past ↦ inl ((old x).1 (i, j, past, join))
      | inr here ↦
          let same : i ≡ n = omega arith in
          inr ((IsMadeBy-iff_joins last_writer n start x).1
          (j, subst (λ k. Joins touches k x j) same join))
    ]),
  )

  -- at the start nothing is found
  pub AreFoundUpTo-start : AreFoundUpTo touches 0 []
  AreFoundUpTo-start x = (
    λ h. absurd (Contains-nil x h),
    λ (i, j, l, join). absurd (omega (arith, l)),
  )

  pub IsLastWriter-start : IsLastWriter touches 0 0
  IsLastWriter-start = record {
    within = omega arith;
    some = λ l. l;
    alike = λ j from below. absurd (omega arith);
    reads = λ j from below. absurd (omega arith);
    before = λ j below same. absurd (omega arith);
  }
