-- The lines of a call of `commit`. A disagreement names their places.
use Rattle.std.specs.Prelude.{ℕ, suc, not, List, [], ◌∷◌, ◌++◌, filter}
use Rattle.epx_types.specs.declared.id.Id.{Id}
use Rattle.epx_types.specs.Done.{is_among}
use Rattle.epx_types.specs.Instances.{Instance}
use Rattle.epx_types.specs.PlacedLines.{Placed}

-- instances on consecutive lines of a log, the first on line n
abbrev pub lines_from : ℕ → ℕ → List Instance → List Placed
lines_from log n [] = []
lines_from log n (e ∷ es) = record { place = record { log = log; line = n }; instance = e }
    ∷ lines_from log (suc n) es

-- the lines of instances that are not done
abbrev pub lines_not_done : List Id → List Placed → List Placed
lines_not_done done lines = filter (λ p. not (is_among done p.instance.id)) lines

-- The pending instances are the lines of log 0. Those that come are the lines of log 1, where the
-- lines of done instances are left out
abbrev pub call_lines : List Id → List Instance → List Instance → List Placed
call_lines done pending came = lines_from 0 1 pending ++ lines_not_done done (lines_from 1 1 came)
