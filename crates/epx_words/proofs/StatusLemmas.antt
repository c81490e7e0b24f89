-- The status of a text, by the kind of clap's error.
use Rattle.std.proofs.Common.{◌≡◌, ◌≢◌, ◌⊎◌, ◌↔◌, Bool, true, false, subst, refl, inl, inr}
use Rattle.clap.specs.Words.{IsAmong, Kinds}
use Rattle.clap.specs.declared.error.kind.ErrorKind.{ErrorKind}
use Rattle.clap.specs.declared.error.kind.ErrorKind.TheVariants.{OutOfMemory}
use Rattle.epx_words.specs.declared.words.Words.{Words}
use Rattle.epx_words.specs.declared.words.Words.TheVariants as words
use Rattle.epx_words.specs.Requests.{IsWork, IfText, IsText}
use Rattle.epx_words.specs.ExitStatus.{IsExitStatus, IsTaken, status_of_kind}
use Rattle.epx_words.specs.SubcommandRows.{Given}

is_among : (kinds : Kinds) (kind : ErrorKind) → kind ≢ OutOfMemory
    → (kind ≡ OutOfMemory) ⊎ IsAmong kind kinds → IsAmong kind kinds
is_among kinds kind not_memory (inl memory) = absurd (not_memory memory)
is_among kinds kind not_memory (inr among) = among

module _ (kinds : Kinds) (kind : ErrorKind) (not_memory : kind ≢ OutOfMemory)
    (has : (kind ≡ OutOfMemory) ⊎ IsAmong kind kinds) where
  pub IsWork-not_taken : (given : Given) (asked : Words) → IsText (status_of_kind kind) asked
      → IsWork asked ↔ IsTaken kinds given
  IsWork-not_taken given (words.Work task plan paths) h = absurd h
  IsWork-not_taken given (words.WorkWith task plan paths flags) h = absurd h
  IsWork-not_taken given (words.Follow plan paths options) h = absurd h
  IsWork-not_taken given (words.Text text status) h = (
    λ asks. absurd asks,
    λ taken. absurd
        (subst (IsAmong kind) taken.0 (is_among kinds kind not_memory has)),
  )

  pub IsExitStatus-of_kind : (asked : Words) → IsText (status_of_kind kind) asked
      → IfText (IsExitStatus kinds) asked
  IsExitStatus-of_kind (words.Work task plan paths) h = tt
  IsExitStatus-of_kind (words.WorkWith task plan paths flags) h = tt
  IsExitStatus-of_kind (words.Follow plan paths options) h = tt
  IsExitStatus-of_kind (words.Text text status) h = (kind, is_among kinds kind not_memory has, h)

pub IfText-refused : (kind : ErrorKind) (takes : Bool) (asked : Words) → kind ≢ OutOfMemory
    → (takes ≡ true → kind ≡ OutOfMemory) → IfText (λ status. takes ≡ false) asked
IfText-refused kind takes (words.Work task plan paths) not_memory passes = tt
IfText-refused kind takes (words.WorkWith task plan paths flags) not_memory passes = tt
IfText-refused kind takes (words.Follow plan paths options) not_memory passes = tt
IfText-refused kind true (words.Text text status) not_memory passes =
    absurd (not_memory (passes refl))
IfText-refused kind false (words.Text text status) not_memory passes = refl
