-- The gaps of a list of Ids, from one position on.
use Rattle.std.proofs.Common.{◌≡◌, ◌∙◌, ℕ, ◌+◌, ◌<◌, Bool, true, false, List, ◌∷◌, length, drop}
use Rattle.std.proofs.Common.{get_or, ap, not, suc, arith, if◌then◌else◌, ◌&&◌, ◌==◌}
use Rattle.epx_types.proofs.Common.{drop-cons, slice_get-get_or}
use Rattle.epx_types.specs.declared.id.Id.{Id}
use Rattle.epx_compare.specs.declared.log_set.LogSet.{LogSet}
use Rattle.epx_compare.specs.Gaps.{gaps_of, goes_on, widened}
use Rattle.epx_compare.specs.inner.LogMarks.{IsMarking, is_log_marked}

module _ (has : Id → Bool) (ids : List Id) (n : ℕ) (d : Id) (within : n < length ids) where
  from_here : drop n ids ≡ get_or ids n d ∷ drop (n + 1) ids
  from_here = drop-cons ids n d within
      ∙ ap (λ m. get_or ids n d ∷ drop m ids) (let e : suc n ≡ n + 1 = omega arith in e)

  by_test : (b : Bool) → has (get_or ids n d) ≡ b → gaps_of has (drop n ids)
      ≡ if b then gaps_of has (drop (n + 1) ids) else
      (if goes_on has (get_or ids n d).replica (drop (n + 1) ids)
      then widened (get_or ids n d).number (gaps_of has (drop (n + 1) ids)) else
      (record {
        replica = (get_or ids n d).replica;
        from = (get_or ids n d).number;
        to = (get_or ids n d).number;
      } ∷ gaps_of has (drop (n + 1) ids)))
  by_test b h = ap (gaps_of has) from_here ∙ ap (λ t. if t
      then gaps_of has (drop (n + 1) ids) else
      (if goes_on has (get_or ids n d).replica (drop (n + 1) ids)
      then widened (get_or ids n d).number (gaps_of has (drop (n + 1) ids)) else
      (record {
        replica = (get_or ids n d).replica;
        from = (get_or ids n d).number;
        to = (get_or ids n d).number;
      } ∷ gaps_of has (drop (n + 1) ids)))) h

  -- an Id that is lacked begins a gap, or the gap of the next one begins with it
  pub gaps_of-lacked : has (get_or ids n d) ≡ false → gaps_of has (drop n ids)
      ≡ if goes_on has (get_or ids n d).replica (drop (n + 1) ids)
      then widened (get_or ids n d).number (gaps_of has (drop (n + 1) ids)) else
      (record {
        replica = (get_or ids n d).replica;
        from = (get_or ids n d).number;
        to = (get_or ids n d).number;
      } ∷ gaps_of has (drop (n + 1) ids))
  gaps_of-lacked h = by_test false h

  -- one that is not lacked is in no gap
  pub gaps_of-had : has (get_or ids n d) ≡ true → gaps_of has (drop n ids)
      ≡ gaps_of has (drop (n + 1) ids)
  gaps_of-had h = by_test true h

  pub goes_on-drop : (replica : ℕ) → goes_on has replica (drop n ids)
      ≡ ((get_or ids n d).replica == replica && not (has (get_or ids n d)))
  goes_on-drop replica = ap (goes_on has replica) from_here

  -- the mark of an Id
  pub is_log_marked-here : (log : ℕ) (marks : List LogSet) → IsMarking has log ids marks
      → has (get_or ids n d) ≡ is_log_marked log marks n
  is_log_marked-here log marks marking =
      marking n (get_or ids n d) (slice_get-get_or ids n d within)
