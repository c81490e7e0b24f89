-- Any bytes are a base or a bad base, never both, and in one way only.
use Rattle.std.specs.Prelude.{◌≡◌, ◌⊎◌, ℕ, List}
use Rattle.epx_types.specs.declared.id.Id.{Id}
use Rattle.epx_types.specs.Contents.{Contents}
use Rattle.epx_report.specs.Bases.{IsBase, IsBadBase}

-- any bytes are a base, or are bad at some line
abbrev pub BaseOrBadBase : Type 0
BaseOrBadBase = (bytes : List ℕ)
    → ((done : List Id) × (stored : Contents) × IsBase bytes done stored)
    ⊎ ((line : ℕ) × IsBadBase bytes line)

-- a base is bad at no line
abbrev pub BaseIsNoBadBase : Type 0
BaseIsNoBadBase = (bytes : List ℕ) (done : List Id) (stored : Contents) (line : ℕ)
    → IsBase bytes done stored → ¬ IsBadBase bytes line

-- two readings of one base agree on the done instances and on the store
abbrev pub BaseSaysOneThing : Type 0
BaseSaysOneThing = (bytes : List ℕ) (done other : List Id) (stored held : Contents)
    → IsBase bytes done stored → IsBase bytes other held → (done ≡ other) × (stored ≡ held)

-- a text that is no base is bad at one line only
abbrev pub BadBaseIsBadAtOneLine : Type 0
BadBaseIsBadAtOneLine = (bytes : List ℕ) (line other : ℕ) → IsBadBase bytes line
    → IsBadBase bytes other → line ≡ other
