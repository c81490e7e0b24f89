-- What ranges of numbers say of a list of Ids.
use Rattle.std.proofs.Common.{◌≡◌, inl, inr, ℕ, ◌+◌, ◌<◌, ◌≤◌, List, [], Some, get_or, set, IfSome}
use Rattle.std.proofs.Common.{None, Option, length, slice_get, refl, sym, ap, subst, ◌∙◌, arith}
use Rattle.epx_types.proofs.Common.{cases_lt, cases_eq, get_or-set_same, get_or-set_other}
use Rattle.epx_types.specs.declared.id.Id.{Id}
use Rattle.epx_committed.specs.declared.number_ranges.NumberRange.{NumberRange}
use Rattle.epx_committed.specs.inner.NumberRanges.{AreRangesIn, IsInRange, Lengthens, position_in}
use Rattle.epx_committed.specs.inner.NumberRanges.{range_of}

-- a number begins a range
pub Lengthens-begin : (old : NumberRange) (number end position : ℕ) → end ≤ number + 1
    → Lengthens old number position
    (record { first = number; end = end; position = position })
Lengthens-begin old number end position few n h =
    inr (omega (arith, few, h.0, h.1), omega (arith, few, h.0, h.1))

-- the number at a range's end lengthens it
pub Lengthens-next : (old : NumberRange) (number end position : ℕ) → end ≤ number + 1
    → number ≡ old.end → position ≡ position_in old number
    → Lengthens old number position
    (record { first = old.first; end = end; position = old.position })
Lengthens-next old number end position few next at n h =
    elim (cases_lt n old.end) [
      | inl before ↦ inl ((h.0, before), refl)
      | inr after ↦
          let same : n ≡ number = omega (arith, few, h.1, next, after) in
          inr (same, ap (position_in old) same ∙ sym at)
    ]

-- a range that stays as it is
pub Lengthens-same : (old : NumberRange) (number position : ℕ) → Lengthens old number position old
Lengthens-same old number position n h = inl (h, refl)

-- one range is lengthened by the Id at a position
module _ (ids : List Id) (ranges : List NumberRange) (id : Id) (position : ℕ) (new : NumberRange)
    (within : id.replica < length ranges) (at : slice_get ids position ≡ Some id)
    (more : Lengthens (range_of ranges id) id.number position new)
    (are : AreRangesIn ids ranges) where
  abbrev after : List NumberRange
  after = set ranges id.replica new

  -- the range of the same replica
  in_new : (number : ℕ) → IsInRange new number
      → slice_get ids (position_in new number)
      ≡ Some (record { replica = id.replica; number = number })
  in_new number h = elim (more number h) [
    | inl old ↦ ap (slice_get ids) old.1
        ∙ are (record { replica = id.replica; number = number }) old.0
    | inr next ↦ ap (slice_get ids) next.1 ∙ at
        ∙ ap (λ n. Some (record { replica = id.replica; number = n })) (sym next.0)
  ]

  pub AreRangesIn-set : AreRangesIn ids after
  AreRangesIn-set x h = elim (cases_eq x.replica id.replica) [
    | inl same ↦
        let here : range_of after x ≡ new =
        ap (λ r. get_or after r (record { first = 0; end = 0; position = 0 })) same
        ∙ get_or-set_same ranges id.replica new _ within in
        ap (λ r. slice_get ids (position_in r x.number)) here
        ∙ in_new x.number (subst (λ r. IsInRange r x.number) here h)
        ∙ ap (λ r. Some (record { replica = r; number = x.number })) (sym same)
    | inr other ↦
        let here : range_of after x ≡ range_of ranges x =
        get_or-set_other ranges id.replica x.replica new _ other in
        ap (λ r. slice_get ids (position_in r x.number)) here
        ∙ are x (subst (λ r. IsInRange r x.number) here h)
  ]

-- no range has a number
pub AreRangesIn-nil : (ids : List Id) → AreRangesIn ids []
AreRangesIn-nil ids x h = absurd (omega (arith, h.0, h.1))

-- ranges stay right where each Id keeps the range of its replica
pub AreRangesIn-same : (ids : List Id) (old new : List NumberRange)
    → ((x : Id) → range_of new x ≡ range_of old x) → AreRangesIn ids old → AreRangesIn ids new
AreRangesIn-same ids old new same are x h =
    ap (λ r. slice_get ids (position_in r x.number)) (same x)
    ∙ are x (subst (λ r. IsInRange r x.number) (same x) h)

-- the position that the range of an Id has for it
pub slice_get-position_in : (ranges : List NumberRange) (x : Id) (range : NumberRange)
    → range ≡ range_of ranges x → (o : Option ℕ) → IfSome o (λ _. IsInRange range x.number)
    → IfSome o (λ k. k ≡ position_in range x.number)
    → IfSome o (λ k. (ids : List Id) → AreRangesIn ids ranges → slice_get ids k ≡ Some x)
slice_get-position_in ranges x range read None within at = tt
slice_get-position_in ranges x range read (Some k) within at = λ ids are.
    ap (slice_get ids) (at ∙ ap (λ r. position_in r x.number) read)
    ∙ are x (subst (λ r. IsInRange r x.number) read within)
