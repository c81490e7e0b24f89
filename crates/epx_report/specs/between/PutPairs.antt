-- Values put under keys.
use Rattle.std.specs.Prelude.{ℕ, ℤ, List, [], ◌∷◌}
use Rattle.std.specs.FinMap as contents
use Rattle.epx_types.specs.Contents.{Contents}

-- the contents after values are put under keys, one after another
abbrev pub put_pairs : List (List ℕ × ℤ) → Contents → Contents
put_pairs [] c = c
put_pairs (p ∷ ps) c = put_pairs ps (contents.insert c p.0 p.1)
