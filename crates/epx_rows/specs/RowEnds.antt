-- Where rows begin and end in the one list that has their numbers.
use Rattle.std.specs.Prelude.{◌≡◌, ℕ, ◌≤◌, List, [], ◌∷◌, slice_range}

-- the list of numbers, cut into rows: each row begins at the end of the previous one, the first at
-- `start`, and goes up to its own end
abbrev pub rows_from : ℕ → List ℕ → List ℕ → List (List ℕ)
rows_from start [] numbers = []
rows_from start (end ∷ ends) numbers = slice_range numbers start end ∷ rows_from end ends numbers

-- `start` and the ends of the rows, in this order, do not fall, and the last of them is `end`
abbrev pub AreRowEnds : ℕ → List ℕ → ℕ → Type 0
AreRowEnds start [] end = start ≡ end
AreRowEnds start (next ∷ ends) end = (start ≤ next) × AreRowEnds next ends end
