-- The lines that are left after dropping redundant ones: blank lines, and some lines that repeat a
-- kept one.
use Rattle.std.specs.Prelude.{◌≡◌, ◌⊎◌, List, [], ◌∷◌, ◌++◌, Contains, Result, Ok}
use Rattle.epx_types.specs.declared.fault.Why.{Why}
use Rattle.epx_lines.specs.declared.Line.{Line}
use Rattle.epx_lines.specs.declared.Line.TheVariants.{Blank}
use Rattle.epx_merge.specs.LogLines.{MeaningAt}

-- one of the lines has this meaning
abbrev pub IsRepeated : List MeaningAt → Result Line Why → Type 0
IsRepeated kept meaning = (line : MeaningAt) × Contains kept line × (line.meaning ≡ meaning)

-- the line is blank, or repeats the meaning of a kept line
abbrev pub IsRedundant : List MeaningAt → Result Line Why → Type 0
IsRedundant kept meaning = (meaning ≡ Ok Blank) ⊎ IsRepeated kept meaning

-- the new list is the old one with the lines appended, except for some redundant ones
abbrev pub DropsRedundant : List MeaningAt → List MeaningAt → List MeaningAt → Type 0
DropsRedundant [] old new = old ≡ new
DropsRedundant (line ∷ lines) old new = DropsRedundant lines (old ++ line ∷ []) new
    ⊎ (IsRedundant old line.meaning × DropsRedundant lines old new)

-- ---- a cache of the meanings of lines

-- the line is blank, or the cache has its meaning
abbrev pub IsRedundantIn : List (Result Line Why) → Result Line Why → Type 0
IsRedundantIn cache meaning = (meaning ≡ Ok Blank) ⊎ Contains cache meaning

-- each meaning in the cache is blank, or is that of a kept line
abbrev pub IsCacheOf : List MeaningAt → List (Result Line Why) → Type 0
IsCacheOf kept cache = (m : Result Line Why) → Contains cache m → IsRedundant kept m

-- the new cache has no meanings but those of the old one and perhaps this one
abbrev pub CachesAfter : List (Result Line Why) → Result Line Why → List (Result Line Why) → Type 0
CachesAfter old meaning new = (m : Result Line Why) → Contains new m
    → Contains old m ⊎ (m ≡ meaning)

-- the new cache has no meanings but those of the old one and of some of the lines
abbrev pub CachesSomeOf : List MeaningAt → List (Result Line Why) → List (Result Line Why) → Type 0
CachesSomeOf lines old new = (m : Result Line Why) → Contains new m
    → Contains old m ⊎ IsRepeated lines m

-- the kept lines are the lines in order, except for some that are redundant in the cache
abbrev pub DropsCached : List (Result Line Why) → List MeaningAt → List MeaningAt → Type 0
DropsCached cache [] kept = kept ≡ []
DropsCached cache (line ∷ lines) kept =
    ((rest : List MeaningAt) × (kept ≡ line ∷ rest) × DropsCached cache lines rest)
    ⊎ (IsRedundantIn cache line.meaning × DropsCached cache lines kept)

-- `lines` are some first lines and then `left`; the batch has the first lines in order, except for
-- some blank ones
pub record IsNextBatch (lines left batch : List MeaningAt) : Type 0 where
  pub gone : List MeaningAt
  pub whole : lines ≡ gone ++ left
  pub drops : DropsCached [] gone batch
