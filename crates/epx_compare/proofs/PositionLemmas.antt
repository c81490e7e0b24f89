-- Rising positions of a list that are exactly those of the elements that pass a test.
use Rattle.std.proofs.Common.{◌≡◌, ◌∙◌, ◌+◌, ◌-◌, ◌<◌, ◌≤◌, ℕ, suc, Bool, true, false, cond, List}
use Rattle.std.proofs.Common.{[], ◌∷◌, Option, Some, None, map, filter, slice_get, refl, sym, ap}
use Rattle.std.proofs.Common.{arith, inl, inr, AllPairs, Contains}
use Rattle.epx_types.proofs.Common.{cases_lt, AllPairs-head, AllPairs-tail, Contains-nil}
use Rattle.epx_types.proofs.Common.{Contains-head, Contains-cons, Contains-cons_cases}

-- rising positions, from n on, exactly those of what passes the test
pub record ArePassing {X : Type 0} (at : ℕ → Option X) (test : X → Bool) (n : ℕ) (ps : List ℕ)
    : Type 0 where
  pub rising : AllPairs (λ p q. p < q) ps
  pub only : (p : ℕ) → Contains ps p
      → (n ≤ p) × ((x : X) × (at p ≡ Some x) × (test x ≡ true))
  pub whole : (p : ℕ) (x : X) → n ≤ p → at p ≡ Some x → test x ≡ true → Contains ps p

module _ {X : Type 0} (at : ℕ → Option X) (test : X → Bool) (n : ℕ) where
  -- the first of the positions, if what is at n passes
  is_first : (p : ℕ) (ps : List ℕ) (x : X) → at n ≡ Some x → test x ≡ true
      → ArePassing at test n (p ∷ ps) → p ≡ n
  is_first p ps x here passes h =
      let upto : n ≤ p = (h.only p (Contains-head p ps)).0 in
      elim (Contains-cons_cases p ps n (h.whole n x (omega arith) here passes)) [
        | inl same ↦ same
        | inr later ↦
            let less : p < n = AllPairs-head (λ p q. p < q) p ps n h.rising later in
            omega arith
      ]

  after_first : (p : ℕ) (ps : List ℕ) → p ≡ n → ArePassing at test n (p ∷ ps)
      → ArePassing at test (suc n) ps
  after_first p ps first h = record {
    rising = AllPairs-tail (λ p q. p < q) p ps h.rising;
    only = λ q among. (
      let less : p < q = AllPairs-head (λ p q. p < q) p ps q h.rising among in omega arith,
      (h.only q (Contains-cons p ps q among)).1,
    );
    whole = λ q y above at_q passes.
        elim (Contains-cons_cases p ps q (h.whole q y (omega arith) at_q passes)) [
          | inl same ↦ absurd (omega arith)
          | inr later ↦ later
        ];
  }

  -- nothing is at n
  without_first : (ps : List ℕ) (x : X) → at n ≡ Some x → test x ≡ false
      → ArePassing at test n ps → ArePassing at test (suc n) ps
  without_first ps x here fails h = record {
    rising = h.rising;
    only = λ q among.
        let found = h.only q among in
        let upto : n ≤ q = found.0 in (
          elim (cases_lt n q) [
            | inl less ↦ (omega arith)
            | inr most ↦
                let same : q ≡ n = omega arith in
                let at_n : at n ≡ Some found.1.0 = ap at (sym same) ∙ found.1.1 in
                let equal : x ≡ found.1.0 = cc in
                let passes : test x ≡ true = ap test equal ∙ found.1.2 in
                absurd (cc)
          ],
          found.1,
        );
    whole = λ q y above at_q passes. h.whole q y (omega arith) at_q passes;
  }

  by_test : (x : X) (xs : List X) → at n ≡ Some x
      → ((ps : List ℕ) → ArePassing at test (suc n) ps → map at ps ≡ map Some (filter test xs))
      → (b : Bool) (ps : List ℕ) → test x ≡ b → ArePassing at test n ps
      → map at ps ≡ map Some (cond b (x ∷ filter test xs) (filter test xs))
  by_test x xs here rest true [] passes h =
      absurd (Contains-nil n (h.whole n x (omega arith) here passes))
  by_test x xs here rest true (p ∷ ps) passes h =
      let first = is_first p ps x here passes h in
      let others = rest ps (after_first p ps first h) in
      let front : at p ≡ Some x = ap at first ∙ here in
      λ i. front i ∷ others i
  by_test x xs here rest false ps fails h = rest ps (without_first ps x here fails h)

-- the elements at these positions are those that pass, in order
pub map-passing : {X : Type 0} (at : ℕ → Option X) (test : X → Bool) (xs : List X) (n : ℕ)
    (ps : List ℕ) → ((i : ℕ) → at (n + i) ≡ slice_get xs i) → ArePassing at test n ps
    → map at ps ≡ map Some (filter test xs)
map-passing at test [] n [] same h = refl
map-passing at test [] n (p ∷ ps) same h =
    let found = h.only p (Contains-head p ps) in
    let upto : n ≤ p = found.0 in
    let index : p ≡ n + (p - n) = omega arith in
    let none : at p ≡ None = ap at index ∙ same (p - n) in
    absurd (cc (none, found.1.1))
map-passing at test (x ∷ xs) n ps same h =
    let start : n ≡ n + 0 = omega arith in
    let here : at n ≡ Some x = ap at start ∙ same 0 in
    let later = λ (i : ℕ). let e : suc n + i ≡ n + suc i = omega arith in
    ap at e ∙ same (suc i) in
    by_test at test n x xs here (λ qs k. map-passing at test xs (suc n) qs later k)
    (test x) ps refl h
