-- Ids that a program can hold.
use Rattle.std.specs.Prelude.{◌<◌, ◌^◌}
use Rattle.epx_types.specs.declared.id.Id.{Id}

-- the replica fits in 8 bits, and the number in 64
abbrev pub FitsIdTypes : Id → Type 0
FitsIdTypes x = (x.replica < 2 ^ 8) × (x.number < 2 ^ 64)
