-- The neighbours that one touch makes, touch by touch.
use Rattle.std.proofs.Common.{◌≡◌, ◌↔◌, ◌⊎◌, inl, inr, ℕ, ◌+◌, ◌<◌, ◌≤◌, List, [], ◌∷◌, ◌++◌}
use Rattle.std.proofs.Common.{Contains}
use Rattle.std.proofs.Common.{IsTrue, sym, subst, ◌∙◌, arith}
use Rattle.epx_types.proofs.Common.{cases_lt, Contains-push, Contains-push_cases}
use Rattle.epx_types.proofs.Common.{Contains-append_left}
use Rattle.epx_neighbours.specs.declared.key_touch.KeyTouch.{KeyTouch}
use Rattle.epx_neighbours.specs.declared.neighbours.Neighbours.{Neighbours}
use Rattle.epx_neighbours.specs.inner.KeyTouches.{key_touch_at}
use Rattle.epx_neighbours.specs.inner.NumberedPairs.{IsMadeBy}

module _ (touches : List KeyTouch) (last_writer i : ℕ) (initial : List Neighbours) where
  -- the first neighbours, and those that touch i makes with touches before e
  abbrev pub AreMadeUpTo : ℕ → List Neighbours → Type 0
  AreMadeUpTo e found = (x : Neighbours) → Contains found x
      ↔ (Contains initial x ⊎ ((j : ℕ) × (j < e) × IsMadeBy touches last_writer i x j))

  -- none is made before the last writer
  pub AreMadeUpTo-none : (x : Neighbours) → Contains initial x
      ↔ (Contains initial x ⊎ ((j : ℕ) × (j < last_writer) × IsMadeBy touches last_writer i x j))
  AreMadeUpTo-none x = (
    λ h. inl h,
    λ h. elim h [
      | inl was ↦ was
      | inr (j, below, made) ↦ absurd (omega (arith, below, made.from))
    ],
  )

  abbrev made_of : ℕ → Neighbours
  made_of e = record {
    before = (key_touch_at touches e).position;
    after = (key_touch_at touches i).position;
    key = (key_touch_at touches i).key;
  }

  pub AreMadeUpTo-push : (e : ℕ) (found : List Neighbours) → last_writer ≤ e → e < i
      → IsTrue (key_touch_at touches i).writes
      ⊎ ((e ≡ last_writer) × IsTrue (key_touch_at touches e).writes)
      → (key_touch_at touches e).position < (key_touch_at touches i).position
      → AreMadeUpTo e found → AreMadeUpTo (e + 1) (found ++ made_of e ∷ [])
  AreMadeUpTo-push e found from below one rises up x = (
    λ h. elim (Contains-push_cases found (made_of e) x h) [
      | inl was ↦ elim ((up x).0 was) [
        | inl old ↦ inl old
        | inr (j, less, made) ↦ inr (j, omega (arith, less), made)
      ]
      | inr same ↦ inr (
        e,
        omega arith,
        record {
          from = from;
          below = below;
          one = one;
          rises = rises;
          is = sym same;
        },
      )
    ],
    λ h. elim h [
      | inl old ↦ Contains-append_left found (made_of e ∷ []) x ((up x).1 (inl old))
      | inr (j, less, made) ↦ elim (cases_lt j e) [
        | inl past ↦ Contains-append_left found (made_of e ∷ []) x
            ((up x).1 (inr (j, past, made)))
        | inr here ↦
            let same : j ≡ e = omega (arith, here, less) in
            subst (Contains (found ++ made_of e ∷ []))
            (sym (made.is ∙ (let at : ℕ → Neighbours = made_of in λ k. at (same k))))
            (Contains-push found (made_of e))
      ]
    ],
  )

  pub AreMadeUpTo-skip : (e : ℕ) (found : List Neighbours)
      → ((x : Neighbours) → ¬ IsMadeBy touches last_writer i x e) → AreMadeUpTo e found
      → AreMadeUpTo (e + 1) found
  AreMadeUpTo-skip e found none up x = (
    λ h. elim ((up x).0 h) [
      | inl old ↦ inl old
      | inr (j, less, made) ↦ inr (j, omega (arith, less), made)
    ],
    λ h. elim h [
      | inl old ↦ (up x).1 (inl old)
      | inr (j, less, made) ↦ elim (cases_lt j e) [
        | inl past ↦ (up x).1 (inr (j, past, made))
        | inr here ↦
            let same : j ≡ e = omega (arith, here, less) in
            absurd (none x (subst (λ k. IsMadeBy touches last_writer i x k) same made))
      ]
    ],
  )

  -- no touch from e on makes neighbours
  pub AreMadeUpTo-at_end : (e : ℕ) (found : List Neighbours)
      → ((j : ℕ) (x : Neighbours) → e ≤ j → ¬ IsMadeBy touches last_writer i x j)
      → AreMadeUpTo e found → (x : Neighbours) → Contains found x
      ↔ (Contains initial x ⊎ ((j : ℕ) × IsMadeBy touches last_writer i x j))
  AreMadeUpTo-at_end e found none up x = (
    λ h. elim ((up x).0 h) [ inl old ↦ inl old | inr (j, less, made) ↦ inr (j, made) ],
    λ h. (up x).1 (elim h [
      | inl old ↦ inl old
      | inr (j, made) ↦ elim (cases_lt j e) [
        | inl past ↦ inr (j, past, made)
        | inr here ↦ absurd (none j x here made)
      ]
    ]),
  )
