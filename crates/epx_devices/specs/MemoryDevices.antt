-- The models of devices in memory.
use Rattle.std.specs.Prelude.{◌≡◌, ◌≤◌, ℕ, Bool, true, false, List, [], ◌∷◌, ◌++◌, length, Some}
use Rattle.epx_devices.specs.Models.{SaverModel, SinkModel, SourceModel}
use Rattle.epx_devices.specs.Reads.{IsOneRead}

-- a source in memory: the bytes that remain are always known, and no read fails
abbrev pub memory_source : SourceModel (List ℕ)
memory_source = record {
  remaining = Some;
  reads = λ s room bytes t. IsOneRead (Some s) (Some t) room bytes;
  fails = λ _ _. ⊥;
  has_failed = λ _. false;
}

-- the bytes that a sink has accepted, and whether a call has returned an error
pub record SinkState : Type 0 where
  pub bytes : List ℕ
  pub failed : Bool

-- a sink in memory: the bytes that it has accepted are always known, and it buffers none of them
abbrev pub memory_sink : SinkModel SinkState
memory_sink = record {
  contents = λ s. Some s.bytes;
  is_flushed = λ _. true;
  has_failed = λ s. s.failed;
}

-- the paths under which bytes were saved, each with these bytes, in the order of saving, and the
-- most bytes that one call may save
pub record SaverState : Type 0 where
  pub files : List (List ℕ × List ℕ)
  pub room : ℕ

-- a saver in memory: a path and its bytes, at most `room` of them, are appended to `files`; a save
-- that fails changes nothing
abbrev pub memory_saver : SaverModel SaverState
memory_saver = record {
  saves = λ s path bytes t. (length bytes ≤ s.room)
      × (t ≡ record s { files = s.files ++ (path, bytes) ∷ [] });
  refuses = λ s _ _ t. t ≡ s;
}
