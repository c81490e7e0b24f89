-- What lines commit.
use Rattle.std.specs.Prelude.{◌∷◌, not, List, [], filter}
use Rattle.epx_types.specs.Instances.{Instance}
use Rattle.epx_types.specs.PlacedLines.{Placed}
use Rattle.epx_versions.specs.SameInstances.{same_instance}

-- the instances that the lines commit, equal ones once, in the order of the first line of each; an
-- Id that lines commit differently has several
abbrev pub versions_of : List Placed → List Instance
versions_of [] = []
versions_of (p ∷ lines) =
    p.instance ∷ filter (λ e. not (same_instance p.instance e)) (versions_of lines)
