-- Touches that are selected by their hashes, one by one.
use Rattle.std.proofs.Common.{◌≡◌, inl, inr, ℕ, ◌+◌, ◌<◌, List, [], ◌∷◌, ◌++◌, true, length, get_or}
use Rattle.std.proofs.Common.{Contains, sym, subst, ap, ◌∙◌, arith}
use Rattle.epx_types.proofs.Common.{cases_lt, get_or_default, Contains-get_or, Contains-push}
use Rattle.epx_types.proofs.Common.{Contains-push_cases, Contains-append_left}
use Rattle.epx_audit.specs.declared.doubtful_touches.DoubtfulTouch.{DoubtfulTouch}
use Rattle.epx_audit.specs.declared.touches.KeyUse.{KeyUse}
use Rattle.epx_audit.specs.inner.DoubtfulKeys.{doubtful_touch, AreInRange}
use Rattle.epx_audit.specs.inner.RelatedTouches.{touch_at}

-- each of some touches is one of all touches
abbrev pub AreSome : List KeyUse → List KeyUse → Type 0
AreSome touches sure = (t : KeyUse) → Contains sure t → Contains touches t

-- they have those of the first n touches that are of none of these hashes
abbrev pub HoldOthers : List KeyUse → List ℕ → List KeyUse → ℕ → Type 0
HoldOthers touches hashes sure n = (i : ℕ) → i < n → ¬ Contains hashes (touch_at touches i).hash
    → Contains sure (touch_at touches i)

-- each is of one of these nodes and of one of these hashes
abbrev pub AreFound : List ℕ → List ℕ → List DoubtfulTouch → Type 0
AreFound nodes hashes found = (t : DoubtfulTouch) → Contains found t
    → Contains nodes t.node × (t.key < length hashes)

-- they have those of the first n touches that are of one of these hashes
abbrev pub HoldFound : List ℕ → List KeyUse → List ℕ → List DoubtfulTouch → ℕ → Type 0
HoldFound nodes touches hashes found n = (i key : ℕ) → i < n → key < length hashes
    → get_or hashes key 0 ≡ (touch_at touches i).hash
    → Contains found (doubtful_touch nodes key (touch_at touches i))

module _ (touches : List KeyUse) (hashes : List ℕ) where
  -- a touch of a key by its number
  pub touch_at-index : (t : KeyUse) (h : Contains touches t) → touch_at touches h.0 ≡ t
  touch_at-index t h = get_or_default touches h.0 _ t h.1 ∙ h.2

  module _ (sure : List KeyUse) (n : ℕ) where
    pub AreSome-push : n < length touches → AreSome touches sure
        → AreSome touches (sure ++ touch_at touches n ∷ [])
    AreSome-push l old t h = elim (Contains-push_cases sure (touch_at touches n) t h) [
      | inl was ↦ old t was
      | inr now ↦ subst (Contains touches) now (Contains-get_or touches n _ l)
    ]

    pub HoldOthers-push : HoldOthers touches hashes sure n
        → HoldOthers touches hashes (sure ++ touch_at touches n ∷ []) (n + 1)
    HoldOthers-push old i l none = elim (cases_lt i n) [
      | inl past ↦ Contains-append_left sure (touch_at touches n ∷ []) (touch_at touches i)
          (old i past none)
      | inr here ↦
          let same : n ≡ i = omega arith in
          subst (λ i. Contains (sure ++ touch_at touches n ∷ []) (touch_at touches i)) same
          (Contains-push sure (touch_at touches n))
    ]

    pub HoldOthers-skip : Contains hashes (touch_at touches n).hash
        → HoldOthers touches hashes sure n
        → HoldOthers touches hashes sure (n + 1)
    HoldOthers-skip some old i l none = elim (cases_lt i n) [
      | inl past ↦ old i past none
      | inr here ↦
          let same : n ≡ i = omega arith in
          absurd (none (subst (λ i. Contains hashes (touch_at touches i).hash) same some))
    ]

  module _ (nodes : List ℕ) (found : List DoubtfulTouch) (n : ℕ) where
    pub AreFound-push : (key : ℕ) → (touch_at touches n).position < length nodes
        → key < length hashes
        → AreFound nodes hashes found
        → AreFound nodes hashes (found ++ doubtful_touch nodes key (touch_at touches n) ∷ [])
    AreFound-push key placed l old t h =
        elim (Contains-push_cases found (doubtful_touch nodes key (touch_at touches n)) t h) [
          | inl was ↦ old t was
          | inr now ↦ subst (λ (t : DoubtfulTouch). Contains nodes t.node
              × (t.key < length hashes))
              now (Contains-get_or nodes (touch_at touches n).position 0 placed, l)
        ]

    pub HoldFound-push : (key : ℕ)
        → ((other : ℕ) → other < length hashes → get_or hashes other 0 ≡ (touch_at touches n).hash
        → key ≡ other) → HoldFound nodes touches hashes found n
        → HoldFound nodes touches hashes
        (found ++ doubtful_touch nodes key (touch_at touches n) ∷ []) (n + 1)
    HoldFound-push key one old i other l within is = elim (cases_lt i n) [
      | inl past ↦ Contains-append_left found (doubtful_touch nodes key (touch_at touches n) ∷ [])
          _ (old i other past within is)
      | inr here ↦
          let same : n ≡ i = omega arith in
          let here' : get_or hashes other 0 ≡ (touch_at touches n).hash =
          is ∙ sym (ap (λ i. (touch_at touches i).hash) same) in
          let Held : ℕ → Type 0 =
          λ i. Contains (found ++ doubtful_touch nodes key (touch_at touches n) ∷ [])
          (doubtful_touch nodes other (touch_at touches i)) in
          let Keyed : ℕ → Type 0 =
          λ k. Contains (found ++ doubtful_touch nodes key (touch_at touches n) ∷ [])
          (doubtful_touch nodes k (touch_at touches n)) in
          subst Held same (subst Keyed (one other within here')
          (Contains-push found (doubtful_touch nodes key (touch_at touches n))))
    ]

    pub HoldFound-skip : ¬ Contains hashes (touch_at touches n).hash
        → HoldFound nodes touches hashes found n → HoldFound nodes touches hashes found (n + 1)
    HoldFound-skip none old i other l within is = elim (cases_lt i n) [
      | inl past ↦ old i other past within is
      | inr here ↦
          let same : i ≡ n = omega arith in
          let there : Contains hashes (touch_at touches i).hash =
          subst (Contains hashes) is (Contains-get_or hashes other 0 within) in
          absurd (none (subst (λ i. Contains hashes (touch_at touches i).hash) same there))
    ]

-- the touch of the one key that all nodes write
abbrev pub writes_the_only_key : ℕ → DoubtfulTouch
writes_the_only_key node = record { key = 0; node = node; writes = true }

module _ (touches : List DoubtfulTouch) (n : ℕ) where
  pub writes_the_only_key-push : ((k : ℕ) → k < n → Contains touches (writes_the_only_key k))
      → (k : ℕ)
      → k < n + 1 → Contains (touches ++ writes_the_only_key n ∷ []) (writes_the_only_key k)
  writes_the_only_key-push old k l = elim (cases_lt k n) [
    | inl past ↦ Contains-append_left touches (writes_the_only_key n ∷ []) (writes_the_only_key k)
        (old k past)
    | inr here ↦
        let same : n ≡ k = omega arith in
        subst (λ k. Contains (touches ++ writes_the_only_key n ∷ []) (writes_the_only_key k)) same
        (Contains-push touches (writes_the_only_key n))
  ]

  pub AreInRange-push : AreInRange n 1 touches
      → AreInRange (n + 1) 1 (touches ++ writes_the_only_key n ∷ [])
  AreInRange-push old t h = elim (Contains-push_cases touches (writes_the_only_key n) t h) [
    | inl was ↦ let o = old t was in (omega (arith, o.0), o.1)
    | inr now ↦ subst (λ (t : DoubtfulTouch). (t.node < n + 1) × (t.key < 1)) now
        (omega arith, omega arith)
  ]
