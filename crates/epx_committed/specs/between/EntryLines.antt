-- Entries in memory, as the lines of one log.
use Rattle.std.specs.Prelude.{ℕ, suc, List, [], ◌∷◌}
use Rattle.epx_types.specs.Instances.{Instance}
use Rattle.epx_types.specs.PlacedLines.{Placed}

-- the entries as consecutive lines of log 0, the first on line n
abbrev pub entry_lines_from : ℕ → List Instance → List Placed
entry_lines_from n [] = []
entry_lines_from n (e ∷ es) = record { place = record { log = 0; line = n }; instance = e }
    ∷ entry_lines_from (suc n) es

-- entries as the lines of log 0, in their order, from line 1 on
abbrev pub entry_lines : List Instance → List Placed
entry_lines es = entry_lines_from 1 es
