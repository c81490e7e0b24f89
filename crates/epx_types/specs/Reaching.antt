-- The graph of dependencies: what an instance reaches.
use Rattle.std.specs.Prelude.{◌≡◌, ◌⊎◌, List, [], ◌∷◌, Contains}
use Rattle.epx_types.specs.declared.id.Id.{Id}
use Rattle.epx_types.specs.Instances.{Instance}

-- x is committed and has y among its dependencies
abbrev pub DependsOn : List Instance → Id → Id → Type 0
DependsOn m x y = (e : Instance) × Contains m e × (e.id ≡ x) × Contains e.deps y

-- a path of dependencies from x to y through the Ids of `via`
abbrev pub IsPath : List Instance → Id → List Id → Id → Type 0
IsPath m x [] y = DependsOn m x y
IsPath m x (z ∷ via) y = DependsOn m x z × IsPath m z via y

-- x is y, or some path leads from x to y
abbrev pub Reaches : List Instance → Id → Id → Type 0
Reaches m x y = (x ≡ y) ⊎ ((via : List Id) × IsPath m x via y)
