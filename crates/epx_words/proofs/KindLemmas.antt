-- If two steps together have no kind of error, neither step has one.
use Rattle.std.proofs.Common.{◌≡◌, [], ◌∷◌, refl}
use Rattle.clap.specs.Kinds.{Kinds, or_else}

pub or_else-nil_first : (a b : Kinds) → or_else a b ≡ [] → a ≡ []
or_else-nil_first [] b none = refl
or_else-nil_first (k ∷ ks) b none = none

pub or_else-nil_second : (a b : Kinds) → or_else a b ≡ [] → b ≡ []
or_else-nil_second [] b none = none
or_else-nil_second (k ∷ ks) b none = cc
