-- Calls in the order of their invocations, and the ranks of instances in it.
use Rattle.std.specs.Prelude.{◌≡◌, ◌≢◌, ◌⊎◌, ℕ, suc, ◌<◌, List, map, length, Option, Some, None}
use Rattle.std.specs.Prelude.{AllPairs, Contains, option_and_then, slice_get}
use Rattle.epx_types.specs.declared.id.Id.{Id}
use Rattle.epx_types.specs.Ids.{UpTo}
use Rattle.epx_linear.specs.declared.client_call.ClientCall.{ClientCall}
use Rattle.epx_linear.specs.declared.spans.Span.{Span}

-- the instance of the call. A span holds it reversed, so that of equal times the lower Id is
-- greater
abbrev pub id_of_span : Span → Id
id_of_span s = s.id.0

-- what a span has of a call: when it was invoked, its instance, and when it returned, if it did
abbrev pub times_of_call : ClientCall → ℕ × (Id × Option ℕ)
times_of_call c = (c.invoked, (c.id, c.returned))

-- what a span says of its call: when it was invoked, its instance, and when it returned, if it did
abbrev pub times_of_span : Span → ℕ × (Id × Option ℕ)
times_of_span s = (s.invoked, (id_of_span s, s.returned))

-- b was invoked later than a, or at the same time and has the lower Id, or the same
abbrev pub IsSpanUpTo : Span → Span → Type 0
IsSpanUpTo a b = (a.invoked < b.invoked)
    ⊎ ((a.invoked ≡ b.invoked) × UpTo (id_of_span b) (id_of_span a))

-- the span is that of the call at its place
abbrev pub IsSpanIn : List ClientCall → Span → Type 0
IsSpanIn h s = (c : ClientCall) × (slice_get h s.at ≡ Some c) × (times_of_call c ≡ times_of_span s)

-- the spans of the calls of a history, by invocation
pub record AreSpansOf (h : List ClientCall) (spans : List Span) : Type 0 where
  pub each : (s : Span) → Contains spans s → IsSpanIn h s
  pub whole : (c : ClientCall) → Contains h c
      → (s : Span) × Contains spans s × (times_of_call c ≡ times_of_span s)
  pub once : AllPairs (λ x y. x ≢ y) (map id_of_span spans)
  pub rising : (r q : ℕ) (a b : Span) → r < q → slice_get spans r ≡ Some a
      → slice_get spans q ≡ Some b → IsSpanUpTo a b

-- each span has another place, which is below their number
pub record HavePlaces (spans : List Span) : Type 0 where
  pub within : (r : ℕ) (s : Span) → slice_get spans r ≡ Some s → s.at < length spans
  pub apart : (r q : ℕ) (s t : Span) → slice_get spans r ≡ Some s → slice_get spans q ≡ Some t
      → s.at ≡ t.at → r ≡ q

-- at the place of each span is its rank, one above its position, and no other rank
pub record AreRanksOf (spans : List Span) (ranks : List ℕ) : Type 0 where
  pub each : (r : ℕ) (s : Span) → slice_get spans r ≡ Some s → slice_get ranks s.at ≡ Some (suc r)
  pub no_other : (k r : ℕ) → slice_get ranks k ≡ Some (suc r)
      → (s : Span) × (slice_get spans r ≡ Some s) × (s.at ≡ k)

-- the number, or 0 if there is none
abbrev pub number_or_zero : Option ℕ → ℕ
number_or_zero None = 0
number_or_zero (Some n) = n

-- the rank of the call at a place, or 0 if there is none
abbrev pub rank_at : List ℕ → Option ℕ → ℕ
rank_at ranks place = number_or_zero (option_and_then (slice_get ranks) place)

-- the span with rank n is s
abbrev pub HasRank : List Span → ℕ → Span → Type 0
HasRank spans n s = (r : ℕ) × (n ≡ suc r) × (slice_get spans r ≡ Some s)

-- the span of one rank had returned before that of the other, of instance x, was invoked
abbrev pub IsLateRank : List Span → ℕ → ℕ → Id → Type 0
IsLateRank spans own latest x = (a b : Span) × HasRank spans own a × HasRank spans latest b
    × ((t : ℕ) × (a.returned ≡ Some t) × (t < b.invoked)) × (id_of_span b ≡ x)
