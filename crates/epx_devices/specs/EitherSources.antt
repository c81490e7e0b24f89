-- Sources of one of two types.
use Rattle.std.specs.Prelude.{ℕ, List}
use Rattle.epx_devices.specs.Models.{SourceModel}
use Rattle.epx_devices.specs.declared.either_source.EitherSource.{EitherSource}
use Rattle.epx_devices.specs.declared.either_source.EitherSource.TheVariants.{First, Second}

-- the value of one function on a source of the first type, and of another on one of the second
abbrev pub value_by : {A B X : Type 0} → (A → X) → (B → X) → EitherSource A B → X
value_by first second (First a) = first a
value_by first second (Second b) = second b

-- a read of a source of either type, after which the source has the same type
abbrev pub ReadsEither : {A B : Type 0} → SourceModel A → SourceModel B
    → EitherSource A B → ℕ → List ℕ → EitherSource A B → Type 0
ReadsEither first second (First a) room bytes (First b) = first.reads a room bytes b
ReadsEither first second (Second a) room bytes (Second b) = second.reads a room bytes b
ReadsEither first second _ room bytes _ = ⊥

-- a failed read of a source of either type, after which the source has the same type
abbrev pub FailsEither : {A B : Type 0} → SourceModel A → SourceModel B
    → EitherSource A B → EitherSource A B → Type 0
FailsEither first second (First a) (First b) = first.fails a b
FailsEither first second (Second a) (Second b) = second.fails a b
FailsEither first second _ _ = ⊥

-- a source of one of two types, with the model of its own type; no read changes the type
abbrev pub either_source : {A B : Type 0} → SourceModel A → SourceModel B
    → SourceModel (EitherSource A B)
either_source first second = record {
  remaining = value_by first.remaining second.remaining;
  reads = ReadsEither first second;
  fails = FailsEither first second;
  has_failed = value_by first.has_failed second.has_failed;
}
