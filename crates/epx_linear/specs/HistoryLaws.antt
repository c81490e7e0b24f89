-- Any bytes are a history or a bad history, never both, and in one way only.
use Rattle.std.specs.Prelude.{◌≡◌, ◌⊎◌, ℕ, List}
use Rattle.epx_linear.specs.declared.client_call.ClientCall.{ClientCall}
use Rattle.epx_linear.specs.HistoryTexts.{IsHistoryText, IsBadHistory}

-- any bytes are a history, or have a first bad line
abbrev pub HistoryOrBadHistory : Type 0
HistoryOrBadHistory = (bytes : List ℕ) → ((h : List ClientCall) × IsHistoryText bytes h)
    ⊎ ((line : ℕ) × IsBadHistory bytes line)

-- a history has no bad line
abbrev pub HistoryIsNoBadHistory : Type 0
HistoryIsNoBadHistory = (bytes : List ℕ) (h : List ClientCall) (line : ℕ)
    → IsHistoryText bytes h → ¬ IsBadHistory bytes line

-- bytes are only one history: the same calls in the same order
abbrev pub TextIsOneHistory : Type 0
TextIsOneHistory = (bytes : List ℕ) (h other : List ClientCall) → IsHistoryText bytes h
    → IsHistoryText bytes other → h ≡ other

-- bytes have only one first bad line
abbrev pub BadHistoryIsBadAtOneLine : Type 0
BadHistoryIsBadAtOneLine = (bytes : List ℕ) (line other : ℕ) → IsBadHistory bytes line
    → IsBadHistory bytes other → line ≡ other
