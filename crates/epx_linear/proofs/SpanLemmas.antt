-- The sorted spans of a history.
use Rattle.std.proofs.Common.{◌≡◌, ◌≢◌, inl, inr, ℕ, zero, suc, ◌+◌, ◌<◌, Bool, false}
use Rattle.std.proofs.Common.{if◌then◌else◌, true≢false}
use Rattle.std.proofs.Common.{List, [], ◌∷◌, ◌++◌, length, map, take, get_or, Option, Some}
use Rattle.std.proofs.Common.{slice_get, Contains, AllPairs, IsPermutation, is_lt, nat_cmp, refl}
use Rattle.std.proofs.Common.{sym, ap, ap₂, subst, subst₂, ◌∙◌, arith, Less, Equal, Greater}
use Rattle.std.specs.Cmp.{IsTotalOrder, nat_cmp_total, on_total, then_total, back_total}
use Rattle.std.specs.Cmp.Lexicographic.{options_total}
use Rattle.std.specs.List.Sorted.{IsSortedBy}
use Rattle.std.specs.Option.{option_cmp}
use Rattle.std.specs.declared.cmp.Ordering.{Ordering}
use Rattle.std.proofs.lemmas.List.Sorted.{length_permutation}
use Rattle.std.proofs.lemmas.Map.Views.{Contains-from_any}
use Rattle.std.proofs.lemmas.Option.{get_or_from_slice_get, slice_get-get_or}
use Rattle.epx_types.proofs.Common.{nat_cmp_is, ordering_reverse}
use Rattle.epx_types.proofs.Common.{ordering_then, ranks_by, sorted_far}
use Rattle.epx_types.proofs.Common.{cases_lt, cases_Bool, length-map, map-append, take_more}
use Rattle.epx_types.proofs.Common.{slice_get_within, AllPairs-slice_get, AllPairs-from_slice_get}
use Rattle.epx_types.proofs.Common.{slice_get-from_map, slice_get-from_Contains, Contains-map}
use Rattle.epx_types.proofs.Common.{Contains-slice_get, map_push}
use Rattle.epx_types.proofs.Common.{Contains-from_map, Contains-permutation, IsPermutation-map}
use Rattle.epx_types.proofs.Common.{IsPermutation-sym, IsDistinct-IsPermutation, id_cmp, UpTo}
use Rattle.epx_types.proofs.Common.{AllPairs-from_IsDistinct, IsDistinct-from_AllPairs}
use Rattle.epx_types.proofs.Common.{id_eq-Decides, id_eq-sym, list_any, id_cmp-IsTotalOrder}
use Rattle.epx_types.proofs.Common.{id_cmp-IsAntisymmetric}
use Rattle.epx_types.proofs.lists.ListPositionLemmas.{slice_get-map}
use Rattle.epx_types.specs.declared.id.Id.{Id}
use Rattle.epx_types.specs.contracts.id.IdPartialEq.TheImpl as id_eq
use Rattle.epx_linear.specs.declared.client_call.ClientCall.{ClientCall}
use Rattle.epx_linear.specs.declared.spans.Span.{Span}
use Rattle.epx_linear.specs.ClientCalls.{IsHistory}
use Rattle.epx_linear.specs.inner.Spans.{id_of_span, times_of_call, times_of_span, IsSpanUpTo}
use Rattle.epx_linear.specs.inner.Spans.{AreSpansOf, HavePlaces}

abbrev pub same_id : Id → Id → Bool
same_id = id_eq.eq-value.it

-- ---- the table of Ids

slice_get-from_take : {X : Type 0} (xs : List X) (i k : ℕ) (x : X)
    → slice_get (take i xs) k ≡ Some x → (k < i) × (slice_get xs k ≡ Some x)
slice_get-from_take [] zero k x e = absurd (cc e)
slice_get-from_take [] (suc i) k x e = absurd (cc e)
slice_get-from_take (y ∷ xs) zero k x e = absurd (cc e)
slice_get-from_take (y ∷ xs) (suc i) zero x e = (omega arith, e)
slice_get-from_take (y ∷ xs) (suc i) (suc k) x e = let rest = slice_get-from_take xs i k x e in
    (omega (arith, rest.0), rest.1)

module _ {X : Type 0} (id_of : X → Id) (xs : List X)
    (once : AllPairs (λ x y. x ≢ y) (map id_of xs)) (i : ℕ) (d : X) (within : i < length xs) where
  abbrev s : X
  s = get_or xs i d

  fresh : list_any (same_id (id_of s)) (map id_of (take i xs)) ≡ false
  fresh =
      elim (cases_Bool (list_any (same_id (id_of s)) (map id_of (take i xs)))) [
        | inl known ↦
            let h = Contains-from_any {eq = same_id} (λ x y e. (id_eq-Decides x y).0 e)
            (id_of s) (map id_of (take i xs)) known in
            let from = slice_get-from_Contains (map id_of (take i xs)) (id_of s) h in
            let before = slice_get-from_map id_of (take i xs) from.0 (id_of s) from.1 in
            let place = slice_get-from_take xs i from.0 before.0 before.1 in
            let here : slice_get xs i ≡ Some s = slice_get-get_or xs i d within in
            absurd
            (AllPairs-slice_get (λ x y. x ≢ y) (map id_of xs) once from.0 i (id_of before.0)
            (id_of s) place.0 (slice_get-map id_of xs from.0 before.0 place.1)
            (slice_get-map id_of xs i s here) before.2)
        | inr unknown ↦ unknown
      ]

  -- the keys of a table after one more Id, which is new
  pub map-take_new_id : (x : Id) → x ≡ id_of (get_or xs i d) → (keys : List Id)
      → keys ≡ map id_of (take i xs)
      → (if list_any (same_id x) keys then keys else keys ++ x ∷ []) ≡ map id_of (take (i + 1) xs)
  map-take_new_id x at keys is =
      let new : list_any (same_id x) keys ≡ false =
      ap₂ (λ (y : Id) (l : List Id). list_any (same_id y) l) at is ∙ fresh in
      let longer : map id_of (take (i + 1) xs) ≡ map id_of (take i xs) ++ id_of s ∷ [] =
      ap (map id_of) (take_more xs i d within) ∙ map-append id_of (take i xs) (s ∷ []) in
      rw new (ap₂ (λ (l : List Id) (y : Id). l ++ y ∷ []) is at ∙ sym longer)

-- ---- the order of spans

abbrev pub span_cmp : Span → Span → Ordering
span_cmp a b = ordering_then (nat_cmp a.invoked b.invoked)
    (ordering_then (id_cmp (id_of_span b) (id_of_span a))
    (ordering_then (option_cmp nat_cmp a.returned b.returned) (nat_cmp a.at b.at)))

span_cmp_total : IsTotalOrder span_cmp
span_cmp_total =
    then_total (on_total (λ (s : Span). s.invoked) nat_cmp_total)
    (then_total (on_total id_of_span (back_total id_cmp-IsTotalOrder))
    (then_total (on_total (λ (s : Span). s.returned) (options_total nat_cmp_total))
    (on_total (λ (s : Span). s.at) nat_cmp_total)))

abbrev lower : Span → Span → Bool
lower a b = is_lt (span_cmp a b)

-- a span that is not below another is up to it
up_to : (a b : Span) → lower b a ≡ false → IsSpanUpTo a b
up_to a b not_below =
    let opt : Ordering =
    ordering_then (option_cmp nat_cmp b.returned a.returned) (nat_cmp b.at a.at) in
    let x = id_of_span a in
    let y = id_of_span b in
    let rest : Ordering = ordering_then (id_cmp x y) opt in
    elim (cases_lt a.invoked b.invoked) [
      | inl earlier ↦ inl earlier
      | inr more ↦ elim (cases_lt b.invoked a.invoked) [
        | inl less ↦
            let e = nat_cmp_is b.invoked a.invoked Less less in
            absurd (true≢false (ap (λ r. is_lt (ordering_then r rest)) e ∙ not_below))
        | inr upto ↦
            let same : a.invoked ≡ b.invoked = omega (arith, more, upto) in
            let e = nat_cmp_is b.invoked a.invoked Equal (sym same) in
            let by_id : is_lt rest ≡ false =
            ap (λ r. is_lt (ordering_then r rest)) e ∙ not_below in
            inr (
              same,
              elim (id_cmp x y) as (λ r. id_cmp x y ≡ r → UpTo y x) [
                | Less ↦ λ f. absurd
                    (true≢false (ap (λ r. is_lt (ordering_then r opt)) (sym f) ∙ by_id))
                | Equal ↦ λ f. inl (sym (id_cmp-IsAntisymmetric x y f))
                | Greater ↦ λ f. inr
                    (ap is_lt (id_cmp-IsTotalOrder.antisymm y x ∙ ap ordering_reverse f))
              ] refl,
            )
      ]
    ]

-- ---- the spans of a history

abbrev call_ids : List ClientCall → List Id
call_ids h = map (λ c. c.id) h

pub AllPairs-call_ids : (h : List ClientCall) → IsHistory h → AllPairs (λ x y. x ≢ y) (call_ids h)
AllPairs-call_ids h history =
    AllPairs-from_slice_get (λ x y. x ≢ y) (call_ids h) (λ i j x y l at to.
    let a = slice_get-from_map (λ (c : ClientCall). c.id) h i x at in
    let b = slice_get-from_map (λ (c : ClientCall). c.id) h j y to in
    subst₂ (λ (v w : Id). v ≢ w) a.2 b.2
    (AllPairs-slice_get (λ (c d : ClientCall). c.id ≢ d.id) h history i j a.0 b.0 l a.1 b.1))

same_ids : (h : List ClientCall) (spans : List Span)
    → map times_of_span spans ≡ map times_of_call h → map id_of_span spans ≡ call_ids h
same_ids [] [] e = refl
same_ids [] (s ∷ spans) e = absurd (cc e)
same_ids (c ∷ h) [] e = absurd (cc e)
same_ids (c ∷ h) (s ∷ spans) e =
    let first : times_of_span s ≡ times_of_call c = cc e in
    let rest : map times_of_span spans ≡ map times_of_call h = cc e in
    ap₂ (λ (x : Id) (xs : List Id). x ∷ xs) (ap (λ (t : ℕ × (Id × Option ℕ)). t.1.0) first)
    (same_ids h spans rest)

-- items in another order have other Ids as before
pub AllPairs-permutation : {X : Type 0} (id_of : X → Id) (old new : List X)
    → AllPairs (λ x y. x ≢ y) (map id_of old) → IsPermutation old new
    → AllPairs (λ x y. x ≢ y) (map id_of new)
AllPairs-permutation id_of old new before moved =
    AllPairs-from_IsDistinct {eq = same_id} id_eq-Decides (map id_of new)
    (IsDistinct-IsPermutation same_id id_eq-sym (map id_of old) (map id_of new)
    (IsPermutation-map id_of old new moved)
    (IsDistinct-from_AllPairs {eq = same_id} id_eq-Decides (map id_of old) before))

-- one more span
pub map-push_span : (h : List ClientCall) (i : ℕ) (d : ClientCall) → i < length h
    → (spans : List Span) → map times_of_span spans ≡ map times_of_call (take i h) → (s : Span)
    → times_of_span s ≡ times_of_call (get_or h i d)
    → map times_of_span (spans ++ s ∷ []) ≡ map times_of_call (take (i + 1) h)
map-push_span h i d within spans before s is =
    map_push times_of_span spans s
    ∙ ap₂ (λ (l : List (ℕ × (Id × Option ℕ))) (t : ℕ × (Id × Option ℕ)). l ++ t ∷ []) before is
    ∙ sym (ap (map times_of_call) (take_more h i d within)
    ∙ map_push times_of_call (take i h) (get_or h i d))

module _ (h : List ClientCall) (history : IsHistory h) (old new : List Span)
    (same : map times_of_span old ≡ map times_of_call h)
    (places : (k : ℕ) (s : Span) → slice_get old k ≡ Some s → s.at ≡ k)
    (moved : IsPermutation old new) where
  spans_apart : AllPairs (λ x y. x ≢ y) (map id_of_span new)
  spans_apart = AllPairs-permutation id_of_span old new
      (subst (AllPairs (λ x y. x ≢ y)) (sym (same_ids h old same)) (AllPairs-call_ids h history))
      moved

  pub length-sorted_spans : length new ≡ length h
  length-sorted_spans = length_permutation old new moved ∙ sym (length-map old times_of_span)
      ∙ ap length same ∙ length-map h times_of_call

  pub AreSpansOf-sorted : IsSortedBy (λ a b. is_lt (span_cmp a b)) new → AreSpansOf h new
  AreSpansOf-sorted sorted = record {
    each = λ s in_new.
        let in_old = Contains-permutation new old s (IsPermutation-sym old new moved) in_new in
        let at = slice_get-from_Contains old s in_old in
        let from = slice_get-from_map times_of_call h at.0 (times_of_span s)
        (subst (λ (l : List (ℕ × (Id × Option ℕ))). slice_get l at.0 ≡ Some (times_of_span s)) same
        (slice_get-map times_of_span old at.0 s at.1)) in (
          from.0,
          subst (λ k. slice_get h k ≡ Some from.0) (sym (places at.0 s at.1)) from.1,
          from.2,
        );
    whole = λ c in_h.
        let from = Contains-from_map times_of_span old (times_of_call c)
        (subst (λ (l : List (ℕ × (Id × Option ℕ))). Contains l (times_of_call c)) (sym same)
        (Contains-map times_of_call h c in_h)) in
        (from.0, Contains-permutation old new from.0 moved from.1, sym from.2);
    once = spans_apart;
    rising = λ r q a b less at to.
        let far = sorted_far lower (ranks_by span_cmp_total (λ s. s)) new sorted r q a
        (omega (arith, less)) (slice_get_within new q b to) in
        up_to a b
        (sym (ap₂ lower (get_or_from_slice_get new q b a to) (get_or_from_slice_get new r a a at))
        ∙ far);
  }

-- the spans of a history have different places
pub HavePlaces-spans : (h : List ClientCall) (spans : List Span) → AreSpansOf h spans
    → length spans ≡ length h → HavePlaces spans
HavePlaces-spans h spans are len = record {
  within = λ r s at.
      let c = are.each s (Contains-slice_get spans r s at) in
      omega (arith, len, slice_get_within h s.at c.0 c.1);
  apart = λ r q s t at to same.
      let c = are.each s (Contains-slice_get spans r s at) in
      let d = are.each t (Contains-slice_get spans q t to) in
      let both : Some c.0 ≡ Some d.0 = sym c.1 ∙ ap (slice_get h) same ∙ d.1 in
      let call : c.0 ≡ d.0 = cc both in
      let id : id_of_span s ≡ id_of_span t =
      ap (λ (u : ℕ × (Id × Option ℕ)). u.1.0) (sym c.2 ∙ ap times_of_call call ∙ d.2) in
      one_place r q (id_of_span s) (slice_get-map id_of_span spans r s at)
      (slice_get-map id_of_span spans q t to ∙ ap Some (sym id));
}
  where
    one_place : (r q : ℕ) (x : Id) → slice_get (map id_of_span spans) r ≡ Some x
        → slice_get (map id_of_span spans) q ≡ Some x → r ≡ q
    one_place r q x at to =
        elim (cases_lt r q) [
          | inl less ↦ absurd (AllPairs-slice_get (λ v w. v ≢ w) (map id_of_span spans) are.once r q
              x x less at to refl)
          | inr more ↦ elim (cases_lt q r) [
            | inl less ↦ absurd (AllPairs-slice_get (λ v w. v ≢ w) (map id_of_span spans) are.once
                q r x x less to at refl)
            | inr upto ↦ omega (arith, more, upto)
          ]
        ]
