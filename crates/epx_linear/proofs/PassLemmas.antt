-- The pass over the commands: what is found at each position.
use Rattle.std.proofs.Common.{◌≡◌, ◌⊎◌, inl, inr, ℕ, zero, suc, max, ◌+◌, ◌-◌, ◌<◌, ◌≤◌, List, []}
use Rattle.std.proofs.Common.{◌∷◌, ◌++◌, length, Option, Some, None, slice_get}
use Rattle.std.proofs.Common.{slice_index_or, refl, sym, ap, subst, ◌∙◌, arith, MatchOption}
use Rattle.epx_types.proofs.Common.{cases_lt, length_push, get_or_append_left, get_or_push}
use Rattle.epx_types.specs.declared.id.Id.{Id}
use Rattle.epx_types.specs.declared.op.Op.{Op}
use Rattle.epx_apply.specs.between.KeyTables.{KeyTableView, IsKeyTableOf, IsLeastAbove}
use Rattle.epx_linear.specs.declared.client_call.ClientCall.{ClientCall}
use Rattle.epx_linear.specs.declared.spans.Span.{Span}
use Rattle.epx_linear.specs.ClientCalls.{IsHistory, IsInvokedUpTo, calls_at}
use Rattle.epx_linear.specs.LateCalls.{IsFoundLate, AreFoundLate}
use Rattle.epx_linear.specs.inner.Spans.{id_of_span, times_of_call, times_of_span}
use Rattle.epx_linear.specs.inner.Spans.{AreSpansOf, AreRanksOf, IsLateRank}
use Rattle.epx_linear.proofs.LatestLemmas.{IsGreatest, HaveGreatest, IsGreatest-next}
use Rattle.epx_linear.proofs.LatestLemmas.{HaveGreatest-push}
use Rattle.epx_linear.proofs.RankLemmas.{own_rank, HasRank-exists, HasCall-exists}
use Rattle.epx_linear.proofs.RankLemmas.{IsSpanUpTo-from_ranks}
use Rattle.epx_linear.proofs.RankLemmas.{IsInvokedUpTo-from_spans}

one_span : (spans : List Span) (r q : ℕ) (a b : Span) → suc r ≡ suc q
    → slice_get spans r ≡ Some a → slice_get spans q ≡ Some b → a ≡ b
one_span spans r q a b e at to =
    let place : r ≡ q = omega (arith, e) in
    let one : Some a ≡ Some b = sym at ∙ ap (slice_get spans) place ∙ to in
    cc one

module _ (commands : List (List Op)) (places : List (Option ℕ)) (h : List ClientCall)
    (history : IsHistory h) (spans : List Span) (are : AreSpansOf h spans) (ranks : List ℕ)
    (ranked : AreRanksOf spans ranks) (j m : ℕ)
    (is : IsGreatest commands (own_rank ranks places) j m) where
  abbrev calls : List (Option ClientCall)
  calls = calls_at h places

  abbrev own : ℕ → ℕ
  own i = own_rank ranks places i

  late_found : (x : Id) → IsLateRank spans (own j) m x → IsFoundLate commands calls j (Some x)
  late_found x (a', b', (r, at_r, this), (q, at_q, last), (t, returned, less), named) =
      let a = HasCall-exists h history spans are ranks ranked places j r at_r in
      let from = is.reached in
      let b = HasCall-exists h history spans are ranks ranked places from.0 q (from.2 ∙ at_q) in
      let same_a : a.1 ≡ a' = one_span spans r r a.1 a' refl a.3 this in
      let same_b : b.1 ≡ b' = one_span spans q q b.1 b' refl b.3 last in
      let times_a : times_of_call a.0 ≡ times_of_span a' = a.4 ∙ ap times_of_span same_a in
      let times_b : times_of_call b.0 ≡ times_of_span b' = b.4 ∙ ap times_of_span same_b in
      let invoked : b.0.invoked ≡ b'.invoked =
      ap (λ (u : ℕ × (Id × Option ℕ)). u.0) times_b in (
        a.0,
        b.0,
        a.2,
        record {
          among = (from.0, from.1, b.2);
          latest = λ k c up has.
              let s = HasRank-exists h history spans are ranks ranked places k c has in
              let low = is.above k up in
              IsInvokedUpTo-from_spans c b.0 s.0 b' s.2 times_b
              (IsSpanUpTo-from_ranks h history spans are ranks ranked places s.1.0 q s.0 b'
              (omega (arith, low, s.1.1, at_q)) s.1.2 last);
        },
        (
          t,
          ap (λ (u : ℕ × (Id × Option ℕ)). u.1.1) times_a ∙ returned,
          omega (arith, less, invoked),
        ),
        ap (λ (u : ℕ × (Id × Option ℕ)). u.1.0) times_b ∙ named,
      )

  none_found : ((x : Id) → ¬ IsLateRank spans (own j) m x) → IsFoundLate commands calls j None
  none_found none i (a, b, at_j, at_i, up, (t, returned, less)) =
      let s = HasRank-exists h history spans are ranks ranked places j a at_j in
      let p = HasRank-exists h history spans are ranks ranked places i b at_i in
      let from = is.reached in
      let low = is.above i up in
      let q : (q : ℕ) × (m ≡ suc q) = above_zero m (omega (arith, low, p.1.1)) in
      let last = HasCall-exists h history spans are ranks ranked places from.0 q.0 (from.2 ∙ q.1) in
      let up_to : IsInvokedUpTo b last.0 =
      IsInvokedUpTo-from_spans b last.0 p.0 last.1 p.2 last.4
      (IsSpanUpTo-from_ranks h history spans are ranks ranked places p.1.0 q.0 p.0 last.1
      (omega (arith, low, p.1.1, q.1)) p.1.2 last.3) in
      let invoked : last.0.invoked ≡ last.1.invoked =
      ap (λ (u : ℕ × (Id × Option ℕ)). u.0) last.4 in
      let later : b.invoked ≤ last.0.invoked = elim up_to [
        | inl more ↦ omega (arith, more)
        | inr tied ↦ omega (arith, tied.0)
      ] in
      none (id_of_span last.1) (
        s.0,
        last.1,
        s.1,
        (q.0, q.1, last.3),
        (
          t,
          sym (ap (λ (u : ℕ × (Id × Option ℕ)). u.1.1) s.2) ∙ returned,
          omega (arith, less, later, invoked),
        ),
        refl,
      )
    where
      above_zero : (k : ℕ) → 0 < k → (q : ℕ) × (k ≡ suc q)
      above_zero zero less = absurd (omega (arith, less))
      above_zero (suc q) less = (q, refl)

  pub IsFoundLate-from_rank : (o : Option Id)
      → MatchOption o ((x : Id) → ¬ IsLateRank spans (own j) m x)
      (IsLateRank spans (own j) m) → IsFoundLate commands calls j o
  IsFoundLate-from_rank None none = none_found none
  IsFoundLate-from_rank (Some x) late = late_found x late

-- ---- the positions so far

pub record HaveFound (commands : List (List Op)) (places : List (Option ℕ)) (spans : List Span)
    (ranks : List ℕ) (i : ℕ)
    (table : KeyTableView) (found : List (Option Id)) : Type 0 where
  pub done : List (List Op × ℕ)
  pub count : length done ≡ i
  pub table_of : IsKeyTableOf done [] table
  pub greatest : HaveGreatest commands (own_rank ranks places) done
  pub whole : length found ≡ i
  pub each : (h : List ClientCall) → IsHistory h → AreSpansOf h spans
      → AreRanksOf spans ranks → (j : ℕ) → j < i
      → IsFoundLate commands (calls_at h places) j (slice_index_or found j None)

pub HaveFound-nil : (commands : List (List Op)) (places : List (Option ℕ)) (spans : List Span)
    (ranks : List ℕ) (table : KeyTableView)
    (found : List (Option Id)) → IsKeyTableOf [] [] table → found ≡ []
    → HaveFound commands places spans ranks 0 table found
HaveFound-nil commands places spans ranks table found is none = record {
  done = [];
  count = refl;
  table_of = is;
  greatest = λ j ops m e. absurd (cc e);
  whole = ap length none;
  each = λ h history are ranked j low. absurd (omega (arith, low));
}

module _ (commands : List (List Op)) (places : List (Option ℕ)) (spans : List Span)
    (ranks : List ℕ) (i : ℕ) (table : KeyTableView)
    (found : List (Option Id)) (is : HaveFound commands places spans ranks i table found)
    (ops : List Op)
    (at : ops ≡ slice_index_or commands i []) (above own m : ℕ)
    (least : IsLeastAbove is.done ops above) (is_own : own ≡ own_rank ranks places i)
    (is_m : m ≡ max own (above - 1)) where
  abbrev n : ℕ
  n = length is.done

  here : ops ≡ slice_index_or commands n []
  here = at ∙ ap (λ k. slice_index_or commands k []) (sym is.count)

  own_here : own ≡ own_rank ranks places n
  own_here = is_own ∙ ap (own_rank ranks places) (sym is.count)

  either : (m ≡ own_rank ranks places n) ⊎ (suc m ≡ above)
  either =
      elim (cases_lt own (above - 1)) [
        | inl high ↦ inr (omega (arith, high, is_m))
        | inr low ↦ inl (omega (arith, low, is_m, own_here))
      ]

  pub IsGreatest-here : IsGreatest commands (own_rank ranks places) n m
  IsGreatest-here = IsGreatest-next commands (own_rank ranks places) is.done is.greatest ops above m
      here
      least (omega (arith, is_m, own_here)) (omega (arith, is_m)) either

  pub HaveFound-push : (table' : KeyTableView) (o : Option Id) (found' : List (Option Id))
      → IsKeyTableOf (is.done ++ (ops, m) ∷ []) [] table'
      → MatchOption o ((x : Id) → ¬ IsLateRank spans own m x) (IsLateRank spans own m)
      → found' ≡ found ++ o ∷ [] → HaveFound commands places spans ranks (i + 1) table' found'
  HaveFound-push table' o found' noted late more = record {
    done = is.done ++ (ops, m) ∷ [];
    count = omega (arith, length_push is.done (ops, m), is.count);
    table_of = noted;
    greatest = HaveGreatest-push commands (own_rank ranks places) is.done is.greatest ops above m
        here
        least IsGreatest-here;
    whole = ap length more ∙ omega (arith, length_push found o, is.whole);
    each = λ h history are ranked j low. elim (cases_lt j i) [
      | inl old ↦
          subst (IsFoundLate commands (calls_at h places) j)
          (sym (ap (λ (l : List (Option Id)). slice_index_or l j None) more
          ∙ get_or_append_left found (o ∷ []) None j (omega (arith, old, is.whole))))
          (is.each h history are ranked j old)
      | inr new ↦
          let place : i ≡ j = omega (arith, low, new) in
          let this : IsFoundLate commands (calls_at h places) n o =
          IsFoundLate-from_rank commands places h history spans are ranks ranked n m IsGreatest-here
          o
          (subst (λ k. MatchOption o ((x : Id) → ¬ IsLateRank spans k m x)
          (IsLateRank spans k m)) own_here late) in
          subst (IsFoundLate commands (calls_at h places) j)
          (sym (ap (λ (l : List (Option Id)). slice_index_or l j None) more
          ∙ get_or_push found o None j (is.whole ∙ place)))
          (subst (λ k. IsFoundLate commands (calls_at h places) k o) (is.count ∙ place) this)
    ];
  }

pub AreFoundLate-at_end : (commands : List (List Op)) (places : List (Option ℕ)) (spans : List Span)
    (ranks : List ℕ) (i : ℕ)
    (table : KeyTableView) (found : List (Option Id))
    → HaveFound commands places spans ranks i table found
    → i ≡ length commands → (h : List ClientCall) → IsHistory h → AreSpansOf h spans
    → AreRanksOf spans ranks → AreFoundLate commands (calls_at h places) found
AreFoundLate-at_end commands places spans ranks i table found is all h history are ranked = record {
  whole = is.whole ∙ all;
  each = λ j low. is.each h history are ranked j (omega (arith, low, all));
}
