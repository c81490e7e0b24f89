-- Models of readers, writers and files that record whether a call has failed.
use Rattle.std.specs.Prelude.{◌≡◌, ◌⊎◌, ⊤, ℕ, Bool, true, false, List, [], ◌++◌, Option, None}
use Rattle.std.specs.Prelude.{Some, MatchOption, option_and_then}
use Rattle.std.specs.Io.KnownBytes.{Keeps}
use Rattle.epx_devices.specs.Models.{OpenerModel, SaverModel, SinkModel, SourceModel}
use Rattle.epx_devices.specs.Reads.{IsOneRead}

-- a reader, what it has returned, and whether a call has failed
pub record ReaderState (R : Type 0) : Type 0 where
  pub reader : R
  -- all bytes that it has returned
  pub returned : List ℕ
  pub failed : Bool

-- nothing was read from it, and no call has failed
abbrev pub IsUnread : {R : Type 0} → ReaderState R → Type 0
IsUnread s = (s.returned ≡ []) × (s.failed ≡ false)

-- a source over a reader whose remaining bytes are `remaining`, if known. A read is one read of it,
-- whose bytes are appended to `returned`. A failed one loses no known bytes, leaves `returned` as
-- it is, and sets `failed`
abbrev pub reader_source : {R : Type 0} → (R → Option (List ℕ)) → SourceModel (ReaderState R)
reader_source remaining = record {
  remaining = λ s. remaining s.reader;
  reads = λ s room bytes t. IsOneRead (remaining s.reader) (remaining t.reader) room bytes
      × (t.returned ≡ s.returned ++ bytes);
  fails = λ s t. Keeps (remaining s.reader) (remaining t.reader)
      × (t.returned ≡ s.returned) × (t.failed ≡ true);
  has_failed = λ s. s.failed;
}

-- a writer, all bytes that it has accepted, whether they are flushed, and whether a call has failed
pub record WriterState (W : Type 0) : Type 0 where
  pub writer : W
  -- all bytes that it has accepted
  pub taken : List ℕ
  -- a flush succeeded, and nothing was written after it
  pub flushed : Bool
  pub failed : Bool

-- a sink over a writer: the bytes that it has accepted are always known, and it buffers none of
-- them if a flush succeeded and nothing was written after it
abbrev pub writer_sink : {W : Type 0} → SinkModel (WriterState W)
writer_sink = record {
  contents = λ s. Some s.taken;
  is_flushed = λ s. s.flushed;
  has_failed = λ s. s.failed;
}

-- a source at a path: what opens files, the path, the file once open, and whether a call has failed
pub record PathState (O F : Type 0) : Type 0 where
  pub opener : O
  pub path : List ℕ
  pub file : Option F
  pub failed : Bool

-- what opens files of the system: nothing was read from a file that it opens, and no call on it has
-- failed. Which file is at a path, and when opening fails, is not known
abbrev pub file_opener : {O R : Type 0} → OpenerModel O (ReaderState R)
file_opener = record { opens = λ _ _ file. IsUnread file; refuses = λ _ _. ⊤ }

-- a file has accepted exactly these bytes, and buffers none of them
abbrev pub HasAccepted : {W : Type 0} → WriterState W → List ℕ → Type 0
HasAccepted file bytes = (file.taken ≡ bytes) × (file.flushed ≡ true)

-- what saves files of the system: if it saves bytes, some file has accepted exactly these and
-- buffers none. Which file is at the path, and when saving fails, is not known
abbrev pub file_saver : {V : Type 0} → (W : Type 0) → SaverModel V
file_saver W = record {
  saves = λ _ path bytes _. (file : WriterState W) × HasAccepted file bytes;
  refuses = λ _ _ _ _. ⊤;
}

-- the next read reads from this file: the one that is open, or one that is opened at the path
abbrev pub IsNextFile : {O F : Type 0} → OpenerModel O F → PathState O F → F → Type 0
IsNextFile opening s file =
    MatchOption s.file (opening.opens s.opener s.path file) (λ first. first ≡ file)

-- the opener and the path did not change
abbrev pub IsSamePath : {O F : Type 0} → PathState O F → PathState O F → Type 0
IsSamePath s t = (t.opener ≡ s.opener) × (t.path ≡ s.path)

-- one read of the next file returned these bytes, and that file is open now
abbrev pub ReadsPath : {O F : Type 0} → OpenerModel O F → SourceModel F
    → PathState O F → ℕ → List ℕ → PathState O F → Type 0
ReadsPath {O} {F} opening D s room bytes t = IsSamePath s t × ((before : F) × (after : F)
    × IsNextFile opening s before × (t.file ≡ Some after) × D.reads before room bytes after)

-- no file was open and none could be opened, or one read of the next file failed
abbrev pub FailsPathYet : {O F : Type 0} → OpenerModel O F → SourceModel F
    → PathState O F → PathState O F → Type 0
FailsPathYet {O} {F} opening D s t = IsSamePath s t
    × (((s.file ≡ None) × (t.file ≡ None) × opening.refuses s.opener s.path)
    ⊎ ((before : F) × (after : F)
    × IsNextFile opening s before × (t.file ≡ Some after) × D.fails before after))

-- no file was open and none could be opened, or one read of the next file failed; and the source
-- records that a call has failed
abbrev pub FailsPath : {O F : Type 0} → OpenerModel O F → SourceModel F
    → PathState O F → PathState O F → Type 0
FailsPath opening D s t = (t.failed ≡ true) × FailsPathYet opening D s t

-- a source over the file at a path, which is opened by the first read. The bytes that remain are
-- known only once it is open, and if they are known of the file
abbrev pub path_source : {O F : Type 0} → OpenerModel O F → SourceModel F
    → SourceModel (PathState O F)
path_source opening D = record {
  -- of the file that is open
  remaining = λ s. option_and_then D.remaining s.file;
  reads = ReadsPath opening D;
  fails = FailsPath opening D;
  has_failed = λ s. s.failed;
}
