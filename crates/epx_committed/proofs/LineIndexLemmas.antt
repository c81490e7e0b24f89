-- What the marks of an index say of a list of Ids.
use Rattle.std.proofs.Common.{◌≡◌, ◌≢◌, inl, inr, ℕ, zero, suc, ◌+◌, List, [], ◌∷◌, ◌++◌, length}
use Rattle.std.proofs.Common.{Contains, Some, AllPairs, get_or, slice_get, refl, sym, ap, subst}
use Rattle.std.proofs.Common.{◌∙◌, add-one, arith}
use Rattle.epx_types.proofs.Common.{length_push, get_or_push, get_or_append_left}
use Rattle.epx_types.proofs.Common.{Contains-push_cases, all_pairs_push, slice_get-get_or}
use Rattle.epx_types.proofs.Common.{slice_get_within, get_or_from_slice_get, Id-cases}
use Rattle.epx_types.proofs.Common.{Contains-slice_get}
use Rattle.epx_types.specs.declared.id.Id.{Id}
use Rattle.epx_committed.specs.declared.line_index.LineIndex.{LineIndex}
use Rattle.epx_committed.specs.inner.LineIndexes.{IsIndexOf, IsMarkIn, mark_of}

-- an Id without a mark is not in the list
pub Contains-no_mark : (ids : List Id) (index : LineIndex) (x : Id) → IsIndexOf ids index
    → mark_of index x ≡ 0 → ¬ Contains ids x
Contains-no_mark ids index x h none = subst (IsMarkIn ids x) none (h x)

-- an Id with a mark is at its position
pub slice_get-at_mark : (ids : List Id) (index : LineIndex) (x : Id) (k : ℕ) → IsIndexOf ids index
    → mark_of index x ≡ k + 1 → slice_get ids k ≡ Some x
slice_get-at_mark ids index x k h is = subst (IsMarkIn ids x) (is ∙ add-one k) (h x)

-- an index in which each Id keeps its mark still has the positions of the list
pub IsIndexOf-same : (ids : List Id) (old new : LineIndex) → IsIndexOf ids old
    → ((x : Id) → mark_of new x ≡ mark_of old x) → IsIndexOf ids new
IsIndexOf-same ids old new h same x = subst (IsMarkIn ids x) (sym (same x)) (h x)

-- ---- one more Id

-- the values at the positions before it, and at the last position
module _ {X : Type 0} (xs : List X) (y : X) where
  pub slice_get-before_push : (k : ℕ) (x : X) → slice_get xs k ≡ Some x
      → slice_get (xs ++ y ∷ []) k ≡ Some x
  slice_get-before_push k x at =
      let within = slice_get_within xs k x at in
      slice_get-get_or (xs ++ y ∷ []) k x (omega (arith, length_push xs y))
      ∙ ap Some (get_or_append_left xs (y ∷ []) x k within ∙ get_or_from_slice_get xs k x x at)

  pub slice_get-push : slice_get (xs ++ y ∷ []) (length xs) ≡ Some y
  slice_get-push =
      slice_get-get_or (xs ++ y ∷ []) (length xs) y (omega (arith, length_push xs y))
      ∙ ap Some (get_or_push xs y y (length xs) refl)

-- the mark of another Id stays right
still : (ids : List Id) (x y : Id) (mark : ℕ) → x ≢ y → IsMarkIn ids x mark
    → IsMarkIn (ids ++ y ∷ []) x mark
still ids x y zero apart none = λ h. elim (Contains-push_cases ids y x h) [
  | inl old ↦ none old
  | inr new ↦ apart (sym new)
]
still ids x y (suc k) apart at = slice_get-before_push ids y k x at

module _ (ids : List Id) (y : Id) (old new : LineIndex) (h : IsIndexOf ids old)
    (here : mark_of new y ≡ length ids + 1)
    (apart : (x : Id) → x ≢ y → mark_of new x ≡ mark_of old x) where
  pub IsIndexOf-push : IsIndexOf (ids ++ y ∷ []) new
  IsIndexOf-push x = elim (Id-cases x y) [
    | inl same ↦
        let P : ℕ → Type 0 = IsMarkIn (ids ++ y ∷ []) y in
        subst (λ z. IsMarkIn (ids ++ y ∷ []) z (mark_of new z)) (sym same)
        (subst P (sym (here ∙ add-one (length ids))) (slice_get-push ids y))
    | inr other ↦ subst (IsMarkIn (ids ++ y ∷ []) x) (sym (apart x other))
        (still ids x y (mark_of old x) other (h x))
  ]

-- Ids stay distinct
pub AllPairs-distinct_push : (ids : List Id) (y : Id) → AllPairs (λ x z. x ≢ z) ids
    → ¬ Contains ids y
    → AllPairs (λ x z. x ≢ z) (ids ++ y ∷ [])
AllPairs-distinct_push ids y distinct none = all_pairs_push (λ x z. x ≢ z) ids y distinct
    (λ k d within e. none (subst (Contains ids) e
    (Contains-slice_get ids k (get_or ids k d) (slice_get-get_or ids k d within))))
