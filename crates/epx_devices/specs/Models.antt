-- How contracts see a source, a sink, what opens files, and what saves them.
use Rattle.std.specs.Prelude.{ℕ, Bool, List, Option}

-- what is known of a source: the bytes that remain, if known; from which state to which a read or a
-- failed read leads; and whether a call has returned an error
pub record SourceModel (S : Type 0) : Type 1 where
  -- the bytes that the remaining reads will return, if they are known
  pub remaining : S → Option (List ℕ)
  -- a read with room for this many bytes returned these bytes and left the source in this state
  pub reads : S → ℕ → List ℕ → S → Type 0
  -- a read failed and left the source in this state
  pub fails : S → S → Type 0
  -- whether a call has returned an error
  pub has_failed : S → Bool

-- what is known of a sink: the bytes that it has accepted, if known; whether it buffers none of
-- them; and whether a call has returned an error
pub record SinkModel (S : Type 0) : Type 0 where
  -- the bytes that the sink has accepted, if they are known
  pub contents : S → Option (List ℕ)
  -- whether the sink buffers none of the bytes that it has accepted
  pub is_flushed : S → Bool
  -- whether a call has returned an error
  pub has_failed : S → Bool

-- what is known of an opener O, whose files are sources of type F: which files it opens at a path,
-- and at which paths it may open none
pub record OpenerModel (O F : Type 0) : Type 1 where
  -- this file was opened at this path
  pub opens : O → List ℕ → F → Type 0
  -- none could be opened at this path
  pub refuses : O → List ℕ → Type 0

-- what is known of a saver, which keeps bytes under a path as a whole: from which state to which a
-- save or a failed save leads
pub record SaverModel (V : Type 0) : Type 1 where
  -- the bytes were saved under the path, and that left the saver in this state
  pub saves : V → List ℕ → List ℕ → V → Type 0
  -- they could not be saved there, and what was there before stays
  pub refuses : V → List ℕ → List ℕ → V → Type 0
