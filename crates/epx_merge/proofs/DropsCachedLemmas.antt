-- Lines without some that are redundant in a cache, and lines that go into a cache.
use Rattle.std.proofs.Common.{◌≡◌, inl, inr, List, [], ◌∷◌, ◌++◌, Contains, Result, refl, sym, ap}
use Rattle.std.proofs.Common.{subst, ◌∙◌, append_assoc, append-nil}
use Rattle.epx_types.proofs.Common.{Contains-append_left, Contains-append_right, Contains-nil}
use Rattle.epx_types.proofs.Common.{Contains-head, Contains-cons_cases}
use Rattle.epx_types.specs.declared.fault.Why.{Why}
use Rattle.epx_lines.specs.declared.Line.{Line}
use Rattle.epx_merge.specs.LogLines.{MeaningAt}
use Rattle.epx_merge.specs.between.RedundantLines.{IsRedundant, DropsRedundant, IsRedundantIn}
use Rattle.epx_merge.specs.between.RedundantLines.{IsCacheOf}
use Rattle.epx_merge.specs.between.RedundantLines.{CachesAfter, CachesSomeOf, DropsCached}
use Rattle.epx_merge.specs.between.RedundantLines.{IsNextBatch}

-- what is redundant after some lines is redundant after more
pub IsRedundant-append : (kept more : List MeaningAt) (m : Result Line Why) → IsRedundant kept m
    → IsRedundant (kept ++ more) m
IsRedundant-append kept more m (inl blank) = inl blank
IsRedundant-append kept more m (inr h) = inr (h.0, Contains-append_left kept more h.0 h.1, h.2)

IsCacheOf-append : (cache : List (Result Line Why)) (kept more : List MeaningAt)
    → IsCacheOf kept cache → IsCacheOf (kept ++ more) cache
IsCacheOf-append cache kept more good m has = IsRedundant-append kept more m (good m has)

-- what is redundant in a cache is redundant after the lines of the cache
redundant_in_cache : (cache : List (Result Line Why)) (kept : List MeaningAt) (m : Result Line Why)
    → IsCacheOf kept cache → IsRedundantIn cache m → IsRedundant kept m
redundant_in_cache cache kept m good (inl blank) = inl blank
redundant_in_cache cache kept m good (inr has) = good m has

-- ---- list by list

module _ (cache : List (Result Line Why)) where
  -- no line has to be dropped
  pub DropsCached-none : (lines : List MeaningAt) → DropsCached cache lines lines
  DropsCached-none [] = refl
  DropsCached-none (l ∷ lines) = inl (lines, refl, DropsCached-none lines)

  pub DropsCached-append : (xs ys a b : List MeaningAt) → DropsCached cache xs a
      → DropsCached cache ys b → DropsCached cache (xs ++ ys) (a ++ b)
  DropsCached-append [] ys a b h k = subst (λ l. DropsCached cache ys (l ++ b)) (sym h) k
  DropsCached-append (x ∷ xs) ys a b (inl h) k =
      inl (h.0 ++ b, ap (λ l. l ++ b) h.1, DropsCached-append xs ys h.0 b h.2 k)
  DropsCached-append (x ∷ xs) ys a b (inr h) k = inr (h.0, DropsCached-append xs ys a b h.1 k)

  -- the blank lines are dropped first
  pub DropsCached-trans : (lines some kept : List MeaningAt) → DropsCached [] lines some
      → DropsCached cache some kept → DropsCached cache lines kept
  DropsCached-trans [] some kept h k = subst (λ l. DropsCached cache l kept) h k
  DropsCached-trans (l ∷ lines) some kept (inl h) k =
      elim (subst (λ x. DropsCached cache x kept) h.1 k) [
        | inl more ↦ inl (more.0, more.1, DropsCached-trans lines h.0 more.0 h.2 more.2)
        | inr less ↦ inr (less.0, DropsCached-trans lines h.0 kept h.2 less.1)
      ]
  DropsCached-trans (l ∷ lines) some kept (inr (inl blank, h)) k =
      inr (inl blank, DropsCached-trans lines some kept h k)
  DropsCached-trans (l ∷ lines) some kept (inr (inr has, h)) k =
      absurd (Contains-nil l.meaning has)

  -- after the lines of the cache, what it drops is redundant
  pub DropsRedundant-cached : (lines kept before : List MeaningAt) → IsCacheOf before cache
      → DropsCached cache lines kept → DropsRedundant lines before (before ++ kept)
  DropsRedundant-cached [] kept before good h =
      sym (append-nil before) ∙ ap (λ l. before ++ l) (sym h)
  DropsRedundant-cached (l ∷ lines) kept before good (inl h) =
      let same : (before ++ l ∷ []) ++ h.0 ≡ before ++ kept =
      append_assoc before (l ∷ []) h.0 ∙ ap (λ k. before ++ k) (sym h.1) in
      inl (subst (DropsRedundant lines (before ++ l ∷ [])) same
      (DropsRedundant-cached lines h.0 (before ++ l ∷ [])
      (IsCacheOf-append cache before (l ∷ []) good) h.2))
  DropsRedundant-cached (l ∷ lines) kept before good (inr h) =
      inr (
        redundant_in_cache cache before l.meaning good h.0,
        DropsRedundant-cached lines kept before good h.1,
      )

  -- each of the lines is redundant after the kept ones
  pub IsRedundant-after_kept : (lines kept before : List MeaningAt) (line : MeaningAt)
      → IsCacheOf before cache → DropsCached cache lines kept → Contains lines line
      → IsRedundant (before ++ kept) line.meaning
  IsRedundant-after_kept [] kept before line good h has = absurd (Contains-nil line has)
  IsRedundant-after_kept (l ∷ lines) kept before line good (inl h) has =
      let same : (before ++ l ∷ []) ++ h.0 ≡ before ++ kept =
      append_assoc before (l ∷ []) h.0 ∙ ap (λ k. before ++ k) (sym h.1) in
      subst (λ k. IsRedundant k line.meaning) same (
      elim (Contains-cons_cases l lines line has) [
        | inl here ↦ inr (
          l,
          Contains-append_left (before ++ l ∷ []) h.0 l
              (Contains-append_right before (l ∷ []) l (Contains-head l [])),
          ap (λ (k : MeaningAt). k.meaning) here,
        )
        | inr later ↦ IsRedundant-after_kept lines h.0 (before ++ l ∷ []) line
            (IsCacheOf-append cache before (l ∷ []) good) h.2 later
      ]
      )
  IsRedundant-after_kept (l ∷ lines) kept before line good (inr h) has =
      elim (Contains-cons_cases l lines line has) [
        | inl here ↦ subst (λ (k : MeaningAt). IsRedundant (before ++ kept) k.meaning) here
            (IsRedundant-append before kept l.meaning
            (redundant_in_cache cache before l.meaning good h.0))
        | inr later ↦ IsRedundant-after_kept lines kept before line good h.1 later
      ]

-- ---- lines that go into a cache

module _ (lines : List MeaningAt) where
  pub CachesSomeOf-trans : (a b c : List (Result Line Why)) → CachesSomeOf lines a b
      → CachesSomeOf lines b c → CachesSomeOf lines a c
  CachesSomeOf-trans a b c h k m has =
      elim (k m has) [
        | inl older ↦ h m older
        | inr some ↦ inr some
      ]

  pub CachesSomeOf-line : (line : MeaningAt) (old new : List (Result Line Why))
      → Contains lines line → CachesAfter old line.meaning new → CachesSomeOf lines old new
  CachesSomeOf-line line old new among h m has =
      elim (h m has) [
        | inl older ↦ inl older
        | inr same ↦ inr (line, among, sym same)
      ]

-- ---- a batch that is cut line by line

module _ (old walk walk' lines : List MeaningAt) (line : MeaningAt) (next : walk ≡ line ∷ walk')
    (h : IsNextBatch old walk lines) where
  gone_more : old ≡ (h.gone ++ line ∷ []) ++ walk'
  gone_more = h.whole ∙ ap (λ l. h.gone ++ l) next ∙ sym (append_assoc h.gone (line ∷ []) walk')

  -- a batch with one more line
  pub IsNextBatch-push : (lines' : List MeaningAt) → lines' ≡ lines ++ line ∷ []
      → IsNextBatch old walk' lines'
  IsNextBatch-push lines' pushed = record {
    gone = h.gone ++ line ∷ [];
    whole = gone_more;
    drops = subst (DropsCached [] (h.gone ++ line ∷ [])) (sym pushed)
        (DropsCached-append [] h.gone (line ∷ []) lines (line ∷ []) h.drops
        (DropsCached-none [] (line ∷ [])));
  }

  -- a blank line is skipped
  pub IsNextBatch-blank : IsRedundantIn [] line.meaning → IsNextBatch old walk' lines
  IsNextBatch-blank blank = record {
    gone = h.gone ++ line ∷ [];
    whole = gone_more;
    drops = subst (DropsCached [] (h.gone ++ line ∷ [])) (append-nil lines)
        (DropsCached-append [] h.gone (line ∷ []) lines [] h.drops (inr (blank, refl)));
  }

-- the cache with some of the lines in addition
pub IsCacheOf-more : (cache : List (Result Line Why)) (before lines kept : List MeaningAt)
    → IsCacheOf before cache → DropsCached cache lines kept → (cache' : List (Result Line Why))
    → CachesSomeOf lines cache cache' → IsCacheOf (before ++ kept) cache'
IsCacheOf-more cache before lines kept good h cache' more m has =
    elim (more m has) [
      | inl older ↦ IsRedundant-append before kept m (good m older)
      | inr some ↦ subst (IsRedundant (before ++ kept)) some.2
          (IsRedundant-after_kept cache lines kept before some.0 good h some.1)
    ]
