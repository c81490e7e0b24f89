-- The paths of logs that are read.
use Rattle.std.specs.Prelude.{ℕ, List, [], ◌∷◌, Option, Some, None, codes}

-- the paths that are read: without any it is a hyphen, which means the input
abbrev pub paths_read : Option (List (List ℕ)) → List (List ℕ)
paths_read None = codes "-" ∷ []
paths_read (Some paths) = paths
