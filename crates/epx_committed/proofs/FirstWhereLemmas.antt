-- The first of the lines for which a fact holds.
use Rattle.std.proofs.Common.{◌≡◌, ◌⊎◌, inl, inr, List, [], ◌∷◌, ◌++◌, Contains, refl, sym, subst}
use Rattle.std.proofs.Common.{◌∙◌}
use Rattle.epx_types.proofs.Common.{Placed, Earlier, place_cmp-IsTotalOrder, Contains-nil}
use Rattle.epx_types.proofs.Common.{Contains-head}
use Rattle.epx_types.proofs.Common.{Contains-cons, Contains-cons_cases, is_lt-irrefl, is_lt-asymm}
use Rattle.epx_committed.specs.between.Ledgers.{IsFirstWhere}
use Rattle.epx_committed.specs.between.LineOrder.{IsSortedByPlace}

module _ (P : Placed → Type 0) where
  -- it is one of them
  pub IsFirstWhere-contains : (lines : List Placed) (p : Placed) → IsFirstWhere P lines p
      → Contains lines p
  IsFirstWhere-contains [] p h = absurd h
  IsFirstWhere-contains (q ∷ lines) p (inl h) =
      subst (Contains (q ∷ lines)) h.0 (Contains-head q lines)
  IsFirstWhere-contains (q ∷ lines) p (inr h) =
      Contains-cons q lines p (IsFirstWhere-contains lines p h.1)

  -- the fact holds for it
  pub IsFirstWhere-holds : (lines : List Placed) (p : Placed) → IsFirstWhere P lines p → P p
  IsFirstWhere-holds [] p h = absurd h
  IsFirstWhere-holds (q ∷ lines) p (inl h) = subst P h.0 h.1
  IsFirstWhere-holds (q ∷ lines) p (inr h) = IsFirstWhere-holds lines p h.1

  -- there is at most one
  pub IsFirstWhere-unique : (lines : List Placed) (p q : Placed) → IsFirstWhere P lines p
      → IsFirstWhere P lines q → p ≡ q
  IsFirstWhere-unique [] p q h k = absurd h
  IsFirstWhere-unique (x ∷ lines) p q (inl h) (inl k) = sym h.0 ∙ k.0
  IsFirstWhere-unique (x ∷ lines) p q (inl h) (inr k) = absurd (k.0 h.1)
  IsFirstWhere-unique (x ∷ lines) p q (inr h) (inl k) = absurd (h.0 k.1)
  IsFirstWhere-unique (x ∷ lines) p q (inr h) (inr k) = IsFirstWhere-unique lines p q h.1 k.1

  -- there is one if the fact is decidable and holds for some line
  pub IsFirstWhere-exists : ((q : Placed) → P q ⊎ (¬ P q)) → (lines : List Placed) (p : Placed)
      → Contains lines p → P p → (first : Placed) × IsFirstWhere P lines first
  IsFirstWhere-exists decide [] p h holds = absurd (Contains-nil p h)
  IsFirstWhere-exists decide (q ∷ lines) p h holds =
      elim (decide q) [
        | inl here ↦ (q, inl (refl, here))
        | inr none ↦ elim (Contains-cons_cases q lines p h) [
          | inl same ↦ absurd (none (subst P (sym same) holds))
          | inr later ↦ let first = IsFirstWhere-exists decide lines p later holds in
              (first.0, inr (none, first.1))
        ]
      ]

  -- appending lines does not change it
  pub IsFirstWhere-append : (lines more : List Placed) (p : Placed) → IsFirstWhere P lines p
      → IsFirstWhere P (lines ++ more) p
  IsFirstWhere-append [] more p h = absurd h
  IsFirstWhere-append (q ∷ lines) more p (inl h) = inl h
  IsFirstWhere-append (q ∷ lines) more p (inr h) = inr (h.0, IsFirstWhere-append lines more p h.1)

  -- one more line, if the fact holds for none of the earlier ones
  pub IsFirstWhere-push : (lines : List Placed) (p : Placed)
      → ((q : Placed) → Contains lines q → ¬ P q) → P p → IsFirstWhere P (lines ++ p ∷ []) p
  IsFirstWhere-push [] p none holds = inl (refl, holds)
  IsFirstWhere-push (q ∷ lines) p none holds =
      inr (
        none q (Contains-head q lines),
        IsFirstWhere-push lines p (λ r h. none r (Contains-cons q lines r h)) holds,
      )

  -- in lines sorted by place, the fact holds for no earlier line
  pub IsFirstWhere-earliest : (lines : List Placed) → IsSortedByPlace lines → (p : Placed)
      → IsFirstWhere P lines p → (q : Placed) → Contains lines q → P q → ¬ Earlier q.place p.place
  IsFirstWhere-earliest [] order p h q in_q holds earlier = absurd h
  IsFirstWhere-earliest (x ∷ lines) order p (inl h) q in_q holds earlier =
      elim (Contains-cons_cases x lines q in_q) [
        | inl same ↦ is_lt-irrefl place_cmp-IsTotalOrder q.place
            (let Q : Placed → Type 0 = λ y. Earlier q.place y.place in
            subst Q (sym h.0 ∙ same) earlier)
        | inr rest ↦ is_lt-asymm place_cmp-IsTotalOrder x.place q.place (order.0 q rest)
            (let Q : Placed → Type 0 = λ y. Earlier q.place y.place in subst Q (sym h.0) earlier)
      ]
  IsFirstWhere-earliest (x ∷ lines) order p (inr h) q in_q holds earlier =
      elim (Contains-cons_cases x lines q in_q) [
        | inl same ↦ h.0 (subst P (sym same) holds)
        | inr rest ↦ IsFirstWhere-earliest lines order.1 p h.1 q rest holds earlier
      ]
