-- The ranks of spans, noted at the places of their calls.
use Rattle.std.proofs.Common.{◌≡◌, ◌≢◌, inl, inr, ℕ, zero, suc, ◌+◌, ◌<◌, List, length, set}
use Rattle.std.proofs.Common.{replicate, Some, None, slice_get, ◌≤◌, sym, ap, ◌∙◌, arith}
use Rattle.epx_types.proofs.Common.{cases_eq, length-set, length-replicate, get_or-set_same}
use Rattle.epx_types.proofs.Common.{get_or-set_other, get_or-replicate, slice_get_within}
use Rattle.epx_types.proofs.Common.{slice_get-get_or, get_or_from_slice_get}
use Rattle.epx_linear.specs.declared.spans.Span.{Span}
use Rattle.epx_linear.specs.inner.Spans.{HavePlaces, AreRanksOf}

-- the ranks of the first spans are noted, and no others
pub record AreNoted (spans : List Span) (i : ℕ) (ranks : List ℕ) : Type 0 where
  pub len : length ranks ≡ length spans
  pub each : (r : ℕ) (s : Span) → r < i → slice_get spans r ≡ Some s
      → slice_get ranks s.at ≡ Some (suc r)
  pub no_other : (k r : ℕ) → slice_get ranks k ≡ Some (suc r)
      → (s : Span) × (slice_get spans r ≡ Some s) × (s.at ≡ k)

pub AreNoted-nil : (spans : List Span) (n : ℕ) → n ≡ length spans
    → AreNoted spans 0 (replicate n 0)
AreNoted-nil spans n len = record {
  len = length-replicate {A = ℕ} n 0 ∙ len;
  each = λ r s less at. absurd (omega (arith, less));
  no_other = λ k r read.
      let within : k < n =
      omega (
        arith,
        slice_get_within (replicate n 0) k (suc r) read,
        length-replicate {A = ℕ} n 0,
      ) in
      let zero_there : 0 ≡ suc r = sym (get_or-replicate n k 0 0 within)
      ∙ get_or_from_slice_get (replicate n 0) k (suc r) 0 read in
      absurd (omega (arith, zero_there));
}

pub AreRanksOf-noted : (spans : List Span) (i : ℕ) (ranks : List ℕ) → i ≡ length spans
    → AreNoted spans i ranks → AreRanksOf spans ranks
AreRanksOf-noted spans i ranks all are = record {
  each = λ r s at. are.each r s (omega (arith, slice_get_within spans r s at, all)) at;
  no_other = are.no_other;
}

pub AreRanksOf-within : (spans : List Span) (ranks : List ℕ) → AreRanksOf spans ranks → (k n : ℕ)
    → slice_get ranks k ≡ Some n → n ≤ length spans
AreRanksOf-within spans ranks are k zero read = omega arith
AreRanksOf-within spans ranks are k (suc r) read =
    let span = are.no_other k r read in
    omega (arith, slice_get_within spans r span.0 span.1)

-- a default span, read past the end of a list
abbrev pub no_span : Span
no_span = record {
  invoked = 0;
  id = record { 0 = record { replica = 0; number = 0 } };
  returned = None;
  at = 0;
}

module _ (spans : List Span) (have : HavePlaces spans) (i : ℕ) (ranks : List ℕ)
    (are : AreNoted spans i ranks) (s : Span) (at : slice_get spans i ≡ Some s) where
  abbrev more : List ℕ
  more = set ranks s.at (suc i)

  here : s.at < length ranks
  here = omega (arith, have.within i s at, are.len)

  here_noted : slice_get more s.at ≡ Some (suc i)
  here_noted = slice_get-get_or more s.at 0 (omega (arith, here, length-set ranks s.at (suc i)))
      ∙ ap Some (get_or-set_same ranks s.at (suc i) 0 here)

  other_noted : (k n : ℕ) → k ≢ s.at → slice_get ranks k ≡ Some n → slice_get more k ≡ Some n
  other_noted k n other read = slice_get-get_or more k 0
      (omega (arith, slice_get_within ranks k n read, length-set ranks s.at (suc i)))
      ∙ ap Some (get_or-set_other ranks s.at k (suc i) 0 other
      ∙ get_or_from_slice_get ranks k n 0 read)

  noted_before : (k n : ℕ) → k ≢ s.at → slice_get more k ≡ Some n → slice_get ranks k ≡ Some n
  noted_before k n other read = slice_get-get_or ranks k 0
      (omega (arith, slice_get_within more k n read, length-set ranks s.at (suc i)))
      ∙ ap Some (sym (get_or-set_other ranks s.at k (suc i) 0 other)
      ∙ get_or_from_slice_get more k n 0 read)

  pub AreNoted-set : AreNoted spans (i + 1) (set ranks s.at (suc i))
  AreNoted-set = record {
    len = length-set ranks s.at (suc i) ∙ are.len;
    each = λ r t less to. elim (cases_eq r i) [
      | inl same ↦
          let both : Some t ≡ Some s = sym to ∙ ap (slice_get spans) same ∙ at in
          let one : t ≡ s = cc both in
          ap (λ (u : Span). slice_get more u.at) one ∙ here_noted
          ∙ ap (λ k. Some (suc k)) (sym same)
      | inr other ↦ other_noted t.at (suc r) (λ same. other (have.apart r i t s to at same))
          (are.each r t (omega (arith, less, other)) to)
    ];
    no_other = λ k r read. elim (cases_eq k s.at) [
      | inl same ↦
          let both : Some (suc i) ≡ Some (suc r) =
          sym here_noted ∙ ap (slice_get more) (sym same) ∙ read in
          let one : i ≡ r = cc both in
          (s, ap (slice_get spans) (sym one) ∙ at, sym same)
      | inr other ↦ are.no_other k r (noted_before k (suc r) other read)
    ];
  }
