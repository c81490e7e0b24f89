-- The ranks of instances among the spans of a history.
use Rattle.std.proofs.Common.{◌≡◌, ◌≢◌, inl, inr, ℕ, zero, suc, ◌<◌, ◌≤◌, true, false, List}
use Rattle.std.proofs.Common.{[], ◌∷◌, length, Option, Some, None, slice_get}
use Rattle.std.proofs.Common.{Contains, AllPairs, position, is_eq, option_and_then, refl, sym, ap}
use Rattle.std.proofs.Common.{subst, ◌∙◌}
use Rattle.std.proofs.Common.{arith, Bool, nat_lt}
use Rattle.std.specs.List.{position_or_len}
use Rattle.std.proofs.lemmas.Bool.Decides.{nat_tests}
use Rattle.std.specs.Cmp.{Equal-is, tied_itself}
use Rattle.epx_types.proofs.Common.{cases_lt, cases_Bool, slice_get_within, UpTo}
use Rattle.epx_types.proofs.Common.{AllPairs-slice_get, AllPairs-head, AllPairs-tail}
use Rattle.epx_types.proofs.Common.{slice_get-from_map, slice_get-from_Contains, Contains-nil}
use Rattle.epx_types.proofs.Common.{Contains-head, Contains-cons, Contains-cons_cases, id_cmp}
use Rattle.epx_types.proofs.Common.{Contains-slice_get, id_eq-Decides, id_cmp-IsTotalOrder}
use Rattle.epx_types.proofs.Common.{id_cmp-IsAntisymmetric}
use Rattle.epx_types.proofs.lists.ListPositionLemmas.{slice_get-map}
use Rattle.epx_types.specs.declared.id.Id.{Id}
use Rattle.epx_linear.specs.declared.client_call.ClientCall.{ClientCall}
use Rattle.epx_linear.specs.declared.spans.Span.{Span}
use Rattle.epx_linear.specs.ClientCalls.{IsHistory, HasCall, IsInvokedUpTo, call_of, calls_at}
use Rattle.epx_linear.specs.inner.Spans.{id_of_span, times_of_call, times_of_span, IsSpanUpTo}
use Rattle.epx_linear.specs.inner.Spans.{AreSpansOf, AreRanksOf, HasRank, number_or_zero, rank_at}
use Rattle.epx_linear.proofs.SpanLemmas.{same_id}

-- ---- look-ups in a history

pub call_of-found : (h : List ClientCall) (x : Id) (c : ClientCall) → call_of h x ≡ Some c
    → Contains h c × (c.id ≡ x)
call_of-found [] x c found = absurd (cc found)
call_of-found (d ∷ h) x c found =
    elim (cases_Bool (is_eq (id_cmp d.id x))) [
      | inl here ↦
          let same : d ≡ c = cc (rw here at found) in (
            subst (Contains (d ∷ h)) same (Contains-head d h),
            ap (λ (e : ClientCall). e.id) (sym same)
                ∙ id_cmp-IsAntisymmetric d.id x ((Equal-is (id_cmp d.id x)).0 here),
          )
      | inr other ↦ let rest = call_of-found h x c (rw other at found) in
          (Contains-cons d h c rest.0, rest.1)
    ]

pub call_of-finds : (h : List ClientCall) → IsHistory h → (c : ClientCall) → Contains h c
    → call_of h c.id ≡ Some c
call_of-finds [] history c has = absurd (Contains-nil c has)
call_of-finds (d ∷ h) history c has =
    elim (Contains-cons_cases d h c has) [
      | inl same ↦
          let tied : is_eq (id_cmp d.id c.id) ≡ true =
          ap (λ (e : ClientCall). is_eq (id_cmp d.id e.id)) (sym same)
          ∙ ap is_eq (tied_itself id_cmp-IsTotalOrder d.id) in
          rw tied (ap Some same)
      | inr later ↦
          let rest = call_of-finds h (AllPairs-tail (λ (a b : ClientCall). a.id ≢ b.id) d h
          history) c later in
          elim (cases_Bool (is_eq (id_cmp d.id c.id))) [
            | inl here ↦ absurd
                (AllPairs-head (λ (a b : ClientCall). a.id ≢ b.id) d h c history later
                (id_cmp-IsAntisymmetric d.id c.id ((Equal-is (id_cmp d.id c.id)).0 here)))
            | inr other ↦ rw other rest
          ]
    ]

-- ---- the position of an Id

-- the first position at which a test passes
first_position : {X : Type 0} (p : X → Bool) (xs : List X) (i : ℕ) (x : X)
    → slice_get xs i ≡ Some x → p x ≡ true
    → ((k : ℕ) (y : X) → k < i → slice_get xs k ≡ Some y → p y ≡ false) → position_or_len p xs ≡ i
first_position p [] i x at passes earlier = absurd (cc at)
first_position p (y ∷ xs) zero x at passes earlier =
    let same : y ≡ x = cc at in
    let here : p y ≡ true = ap p same ∙ passes in
    rw here refl
first_position p (y ∷ xs) (suc i) x at passes earlier =
    let not_here : p y ≡ false = earlier 0 y (omega arith) refl in
    let rest = first_position p xs i x at passes (λ k z l e. earlier (suc k) z (omega arith) e) in
    rw not_here (omega (arith, rest))

pub position-slice_get : (ids : List Id) → AllPairs (λ x y. x ≢ y) ids → (x : Id) (r : ℕ)
    → slice_get ids r ≡ Some x → position (same_id x) ids ≡ Some r
position-slice_get ids once x r at =
    let within : r < length ids = slice_get_within ids r x at in
    let test : nat_lt r (length ids) ≡ true = grind (arith, nat_tests) in
    rw (first_position (same_id x) ids r x at ((id_eq-Decides x x).1 refl) earlier) (rw test refl)
  where
    earlier : (k : ℕ) (y : Id) → k < r → slice_get ids k ≡ Some y → same_id x y ≡ false
    earlier k y less before =
        elim (cases_Bool (same_id x y)) [
          | inl same ↦ absurd
              (AllPairs-slice_get (λ v w. v ≢ w) ids once k r y x less before at
              (sym ((id_eq-Decides x y).0 same)))
          | inr other ↦ other
        ]

-- ---- ranks

-- the rank at the place of a position
abbrev pub own_rank : List ℕ → List (Option ℕ) → ℕ → ℕ
own_rank ranks places i = rank_at ranks (option_and_then (λ o. o) (slice_get places i))

-- two calls of one instance are one
pub id-is_unique : (h : List ClientCall) → IsHistory h → (j k : ℕ) (a b : ClientCall)
    → slice_get h j ≡ Some a → slice_get h k ≡ Some b → a.id ≡ b.id → j ≡ k
id-is_unique h history j k a b at to same =
    elim (cases_lt j k) [
      | inl less ↦ absurd (AllPairs-slice_get (λ (c d : ClientCall). c.id ≢ d.id) h history j k a b
          less at to same)
      | inr more ↦ elim (cases_lt k j) [
        | inl less ↦ absurd (AllPairs-slice_get (λ (c d : ClientCall). c.id ≢ d.id) h history k j
            b a less to at (sym same))
        | inr upto ↦ omega (arith, more, upto)
      ]
    ]

-- the place of the call at a position
pub slice_get-place : (h : List ClientCall) (places : List (Option ℕ)) (i : ℕ) (c : ClientCall)
    → HasCall (calls_at h places) i c
    → (k : ℕ) × (slice_get places i ≡ Some (Some k)) × (slice_get h k ≡ Some c)
slice_get-place h places i c has =
    let from = slice_get-from_map (option_and_then (slice_get h)) places i (Some c) has in
    by from.0 from.1 from.2
  where
    by : (o : Option ℕ) → slice_get places i ≡ Some o → option_and_then (slice_get h) o ≡ Some c
        → (k : ℕ) × (slice_get places i ≡ Some (Some k)) × (slice_get h k ≡ Some c)
    by None at read = absurd (cc read)
    by (Some k) at read = (k, at, read)

module _ (h : List ClientCall) (history : IsHistory h) (spans : List Span)
    (are : AreSpansOf h spans) (ranks : List ℕ) (ranked : AreRanksOf spans ranks)
    (places : List (Option ℕ)) where
  -- the call at a position has a span
  pub HasRank-exists : (i : ℕ) (c : ClientCall) → HasCall (calls_at h places) i c
      → (s : Span) × HasRank spans (own_rank ranks places i) s
      × (times_of_call c ≡ times_of_span s)
  HasRank-exists i c has =
      let at = slice_get-place h places i c has in
      let span = are.whole c (Contains-slice_get h at.0 c at.2) in
      let place = slice_get-from_Contains spans span.0 span.1 in
      let own = are.each span.0 span.1 in
      let same : span.0.at ≡ at.0 = id-is_unique h history span.0.at at.0 own.0 c own.1 at.2
      (ap (λ (t : ℕ × (Id × Option ℕ)). t.1.0) (own.2 ∙ sym span.2)) in
      let rank : own_rank ranks places i ≡ suc place.0 =
      ap (λ o. rank_at ranks (option_and_then (λ p. p) o)) at.1
      ∙ ap number_or_zero (ap (slice_get ranks) (sym same)
      ∙ ranked.each place.0 span.0 place.1) in
      (span.0, (place.0, rank, place.1), span.2)

  -- a rank above 0 is that of the call at the position
  pub HasCall-exists : (i r : ℕ) → own_rank ranks places i ≡ suc r
      → (c : ClientCall) × (s : Span) × HasCall (calls_at h places) i c
      × (slice_get spans r ≡ Some s) × (times_of_call c ≡ times_of_span s)
  HasCall-exists i r e = at_place (slice_get places i) refl e where
    Found : Type 0
    Found = (c : ClientCall) × (s : Span) × HasCall (calls_at h places) i c
        × (slice_get spans r ≡ Some s) × (times_of_call c ≡ times_of_span s)

    at_rank : (k : ℕ) → slice_get places i ≡ Some (Some k) → (o : Option ℕ)
        → slice_get ranks k ≡ o → number_or_zero o ≡ suc r → Found
    at_rank k at None read e = absurd (omega (arith, e))
    at_rank k at (Some n) read e =
        let span = ranked.no_other k r (read ∙ ap Some e) in
        let own = are.each span.0 (Contains-slice_get spans r span.0 span.1) in
        let call : slice_get h k ≡ Some own.0 = ap (slice_get h) (sym span.2) ∙ own.1 in (
          own.0,
          span.0,
          slice_get-map (option_and_then (slice_get h)) places i (Some k) at ∙ ap Some call,
          span.1,
          own.2,
        )

    at_place : (o : Option (Option ℕ)) → slice_get places i ≡ o
        → rank_at ranks (option_and_then (λ p. p) o) ≡ suc r → Found
    at_place None at e = absurd (omega (arith, e))
    at_place (Some None) at e = absurd (omega (arith, e))
    at_place (Some (Some k)) at e = at_rank k at (slice_get ranks k) refl e

  -- a span with no greater rank is up to the other
  pub IsSpanUpTo-from_ranks : (p q : ℕ) (a b : Span) → p ≤ q → slice_get spans p ≡ Some a
      → slice_get spans q ≡ Some b → IsSpanUpTo a b
  IsSpanUpTo-from_ranks p q a b upto at to =
      elim (cases_lt p q) [
        | inl less ↦ are.rising p q a b less at to
        | inr more ↦
            let place : p ≡ q = omega (arith, upto, more) in
            let one : Some a ≡ Some b = sym at ∙ ap (slice_get spans) place ∙ to in
            let same : a ≡ b = cc one in
            inr (ap (λ (s : Span). s.invoked) same, inl (ap id_of_span (sym same)))
      ]

pub IsInvokedUpTo-from_spans : (a b : ClientCall) (s t : Span) → times_of_call a ≡ times_of_span s
    → times_of_call b ≡ times_of_span t → IsSpanUpTo s t → IsInvokedUpTo a b
IsInvokedUpTo-from_spans a b s t at bt upto =
    let ai : a.invoked ≡ s.invoked = ap (λ (u : ℕ × (Id × Option ℕ)). u.0) at in
    let bi : b.invoked ≡ t.invoked = ap (λ (u : ℕ × (Id × Option ℕ)). u.0) bt in
    let an : a.id ≡ id_of_span s = ap (λ (u : ℕ × (Id × Option ℕ)). u.1.0) at in
    let bn : b.id ≡ id_of_span t = ap (λ (u : ℕ × (Id × Option ℕ)). u.1.0) bt in
    elim upto [
      | inl less ↦ inl (omega (arith, ai, bi, less))
      | inr tied ↦ inr (
        omega (arith, ai, bi, tied.0),
        subst (λ x. UpTo x a.id) (sym bn) (subst (UpTo (id_of_span t)) (sym an) tied.1),
      )
    ]
