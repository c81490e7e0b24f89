-- Devices in memory that fail after a set number of bytes.
use Rattle.std.specs.Prelude.{◌≡◌, ℕ, ◌-◌, min, Bool, true, List, Option, Some, unwrap_or}
use Rattle.std.specs.Prelude.{option_map}
use Rattle.epx_devices.specs.Models.{SinkModel, SourceModel}
use Rattle.epx_devices.specs.Reads.{IsOneRead}

-- a source or a sink in memory, and how many bytes it may still transfer before it fails
pub record FuseState : Type 0 where
  -- the remaining bytes of a source, or the bytes that a sink has accepted
  pub bytes : List ℕ
  -- how many bytes one call may transfer
  pub at_once : ℕ
  -- how many more bytes all calls together may transfer; None: any number
  pub fuse : Option ℕ
  pub failed : Bool

-- how many of n bytes one call transfers: the least of n, `at_once` and, if there is one, `fuse`
abbrev pub allowed_of : ℕ → ℕ → Option ℕ → ℕ
allowed_of n at_once fuse = min (min n at_once) (unwrap_or fuse n)

-- how many of n bytes the next call of the device transfers: the least of n, its `at_once` and, if
-- it has one, its `fuse`
abbrev pub allowed : FuseState → ℕ → ℕ
allowed d n = allowed_of n d.at_once d.fuse

-- the device may transfer no more bytes
abbrev pub IsSpent : FuseState → Type 0
IsSpent d = d.fuse ≡ Some 0

-- the device after a call that returned an error: `failed` is set, and all else is unchanged
abbrev pub after_failure : FuseState → FuseState
after_failure d = record d { failed = true }

-- the device after a transfer of n bytes: it has these bytes, and its fuse, if any, is lower by n
abbrev pub after_transfer : FuseState → ℕ → List ℕ → FuseState
after_transfer d n bytes = record d { bytes = bytes; fuse = option_map (λ k. k - n) d.fuse }

-- a source in memory with a fuse: the bytes that remain are always known, and a read fails only if
-- the fuse is spent
abbrev pub fuse_source : SourceModel FuseState
fuse_source = record {
  remaining = λ s. Some s.bytes;
  reads = λ s room bytes t. IsOneRead (Some s.bytes) (Some t.bytes) room bytes;
  fails = λ s t. IsSpent s × (t ≡ after_failure s);
  has_failed = λ s. s.failed;
}

-- a sink in memory with a fuse: the bytes that it has accepted are always known, and it buffers
-- none of them
abbrev pub fuse_sink : SinkModel FuseState
fuse_sink = record {
  contents = λ s. Some s.bytes;
  is_flushed = λ _. true;
  has_failed = λ s. s.failed;
}
