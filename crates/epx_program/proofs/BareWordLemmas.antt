-- The status of a text, where the words name a subcommand and where they do not.
use Rattle.std.proofs.Common.{◌≡◌, ◌∙◌, ◌⊎◌, ℕ, Bool, true, false, inl, inr, List, [], ◌∷◌, Some}
use Rattle.std.proofs.Common.{None, Result, Ok, Err, IfOk, codes, ap, refl, subst, sym, arith}
use Rattle.std.proofs.Common.{true≢false}
use Rattle.epx_types.proofs.Common.{bytes_eq-Decides, bytes_eq}
use Rattle.clap.specs.Words.{Kinds, Text, fault_of, subcommand_of}
use Rattle.clap.specs.declared.error.kind.ErrorKind.{ErrorKind}
use Rattle.clap.specs.declared.error.kind.ErrorKind.TheVariants.{DisplayHelp, DisplayVersion}
use Rattle.epx_types.specs.declared.memory.Memory.{Memory}
use Rattle.epx_words.specs.App.{epx_app}
use Rattle.epx_words.specs.ExitStatus.{IsTextStatus, status_of_kind}
use Rattle.epx_words.specs.Requests.{IfText, IsBare}
use Rattle.epx_words.specs.SubcommandRows.{Given}
use Rattle.epx_names.specs.declared.task.Task.TheVariants.{Run}
use Rattle.epx_words.specs.declared.words.Words.{Words}
use Rattle.epx_words.specs.declared.words.Words.TheVariants as asked

pub IsBare-decides : (words : List Text) → IsBare words ⊎ (¬ IsBare words)
IsBare-decides [] = inl (inl (omega arith))
IsBare-decides (p ∷ []) = inl (inl (omega arith))
IsBare-decides (p ∷ w ∷ []) = go (bytes_eq w (codes "-")) refl
  where
    go : (b : Bool) → bytes_eq w (codes "-") ≡ b
        → IsBare (p ∷ w ∷ []) ⊎ (¬ IsBare (p ∷ w ∷ []))
    go true e = inl (inr (refl, ap Some ((bytes_eq-Decides w (codes "-")).0 e)))
    go false e = inr (λ bare. elim bare [
      | inl few ↦ absurd (omega (arith, few))
      | inr hyphen ↦
          let same : w ≡ codes "-" = cc (hyphen.1) in
          true≢false (sym ((bytes_eq-Decides w (codes "-")).1 same) ∙ e)
    ])
IsBare-decides (p ∷ w ∷ x ∷ rest) = inr (λ bare. elim bare [
  | inl few ↦ absurd (omega (arith, few))
  | inr hyphen ↦ absurd (omega (arith, hyphen.0))
])

abbrev IsTextEnd : ℕ → Type 0
IsTextEnd status = (status ≡ 0) ⊎ (status ≡ 2)

kind_ends : (kind : ErrorKind) → IsTextEnd (status_of_kind kind)
kind_ends DisplayHelp = inl refl
kind_ends DisplayVersion = inl refl
kind_ends _ = inr refl

status_ends : (kinds : Kinds) (given : Given) (status : ℕ) → IsTextStatus kinds given status
    → IsTextEnd status
status_ends kinds given status (inl is) = subst IsTextEnd (sym is.2) (kind_ends is.0)
status_ends kinds given status (inr is) = inr is.2

text_ends : (kinds : Kinds) (given : Given) (wanted : Words)
    → IfText (IsTextStatus kinds given) wanted → IfText IsTextEnd wanted
text_ends kinds given (asked.Work task plan paths) is = tt
text_ends kinds given (asked.WorkWith task plan paths flags) is = tt
text_ends kinds given (asked.Follow plan paths options) is = tt
text_ends kinds given (asked.Text text status) is = status_ends kinds given status is

-- words that name no subcommand ask for no text
pub IfOk-text_status : (words : List Text) (read : Result Words Memory)
    → (IsBare words → IfOk read
    (λ wanted. wanted ≡ asked.Work Run (record { workers = 4; cut = 256 }) None))
    → (¬ IsBare words → IfOk read
    (IfText (IsTextStatus (fault_of epx_app words) (subcommand_of epx_app words))))
    → IfOk read (IfText (λ status. (status ≡ 0) ⊎ (status ≡ 2)))
IfOk-text_status words (Err memory) bare named = tt
IfOk-text_status words (Ok wanted) bare named = elim (IsBare-decides words) [
  | inl is ↦ subst (IfText IsTextEnd) (sym (bare is)) tt
  | inr not ↦ text_ends (fault_of epx_app words) (subcommand_of epx_app words) wanted (named not)
]
