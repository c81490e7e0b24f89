-- The lines of a log.
use Rattle.std.specs.Prelude.{◌≡◌, ℕ, ◌-◌, ◌==◌, ◌&&◌, Bool, not, nat_lt, List, [], ◌∷◌, ◌++◌}
use Rattle.std.specs.Prelude.{length, slice_index, flat_map, All, Contains, if◌then◌else◌}

-- the lines with one more byte at the front of the first, or a line of this byte alone if there is
-- none
abbrev pub prepend_to_first : ℕ → List (List ℕ) → List (List ℕ)
prepend_to_first b [] = (b ∷ []) ∷ []
prepend_to_first b (l ∷ ls) = (b ∷ l) ∷ ls

-- the pieces between line feeds; an empty piece after the last line feed is not a line
abbrev pub lines_of : List ℕ → List (List ℕ)
lines_of [] = []
lines_of (b ∷ bs) = if b == 10 then [] ∷ lines_of bs else prepend_to_first b (lines_of bs)

-- ---- what the lines of some bytes are, without recursion

-- some bytes follow the last line feed
abbrev pub lacks_line_feed : List ℕ → Bool
lacks_line_feed bytes = nat_lt 0 (length bytes) && not (slice_index bytes (length bytes - 1) == 10)

-- the lines, each followed by a line feed
abbrev pub with_line_feeds : List (List ℕ) → List ℕ
with_line_feeds lines = flat_map (λ l. l ++ 10 ∷ []) lines

-- no line contains a line feed. The lines, each followed by a line feed, are the bytes, or the
-- bytes and one more line feed if they are not empty and do not end with one
pub record AreLinesOf (bytes : List ℕ) (lines : List (List ℕ)) : Type 0 where
  pub unbroken : All (λ l. ¬ Contains l 10) lines
  pub whole : with_line_feeds lines ≡ (if lacks_line_feed bytes then bytes ++ 10 ∷ [] else bytes)

-- for any bytes, the lines that `lines_of` returns make them up, as `AreLinesOf` says
abbrev pub LinesMakeUpTheBytes : Type 0
LinesMakeUpTheBytes = (bytes : List ℕ) → AreLinesOf bytes (lines_of bytes)

-- any lines that make up some bytes, as `AreLinesOf` says, are those that `lines_of` returns
abbrev pub LinesAreOne : Type 0
LinesAreOne = (bytes : List ℕ) (lines : List (List ℕ)) → AreLinesOf bytes lines
    → lines ≡ lines_of bytes
