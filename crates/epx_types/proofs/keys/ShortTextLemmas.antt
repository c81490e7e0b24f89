-- Short texts, each in 22 bytes, of which those after the text are zeros.
use Rattle.std.proofs.Common.{◌≡◌, ℕ, zero, suc, ◌+◌, ◌*◌, ◌≤◌, ◌∙◌, List, [], ◌∷◌, ◌++◌, refl, sym}
use Rattle.std.proofs.Common.{ap, ap₂, subst, arith, IsUtf8, drop, length, replicate}
use Rattle.std.proofs.Common.{slice_index_or, take}
use Rattle.std.proofs.Math.Seq.{take-append_seam}
use Rattle.std.proofs.lemmas.List.{drop-replicate}
use Rattle.std.specs.Int.{from_be_bytes, w64}
use Rattle.epx_types.specs.KeyHeads.{AreBytes, followed_by, head_of}
use Rattle.epx_types.specs.ShortTexts.{IsShortText}

-- a text that is copied over zeros
pub IsShortText-over_zeros : (text copied : List ℕ) → copied ≡ text → length text ≤ 22
    → IsUtf8 text → AreBytes text
    → IsShortText (length text) (copied ++ drop (length text) (replicate 22 0))
IsShortText-over_zeros text copied same fits utf8 bytes = (
  fits,
  ∣ subst IsUtf8 (sym front) utf8 ∣₁,
  subst AreBytes (sym front) bytes,
  ap₂ ◌++◌ (same ∙ sym front) (drop-replicate (length text) 22 0),
)
  where
    front : take (length text) (copied ++ drop (length text) (replicate 22 0)) ≡ text
    front = ap (λ t. take (length text) (t ++ drop (length text) (replicate 22 0))) same
        ∙ take-append_seam text (drop (length text) (replicate 22 0))

-- zeros after a text leave its head as it is
zeros_keep_head : (n a m : ℕ) (text : List ℕ)
    → followed_by n a (text ++ replicate m 0) ≡ followed_by n a text
zeros_keep_head zero a m text = refl
zeros_keep_head (suc n) a zero [] = refl
zeros_keep_head (suc n) a (suc m) [] =
    let same : a * 256 + 0 ≡ a * 256 = omega arith in
    ap (λ x. followed_by n x (replicate m 0)) same ∙ zeros_keep_head n (a * 256) m []
zeros_keep_head (suc n) a m (b ∷ text) = zeros_keep_head n (a * 256 + b) m text

abbrev at : List ℕ → ℕ → ℕ
at bytes i = slice_index_or bytes i 0

pub from_be_bytes-head : (bytes : List ℕ) → from_be_bytes w64 (at bytes 0 ∷ at bytes 1 ∷ at bytes 2
    ∷ at bytes 3 ∷ at bytes 4 ∷ at bytes 5 ∷ at bytes 6 ∷ at bytes 7 ∷ []) ≡ head_of bytes
from_be_bytes-head [] = omega arith
from_be_bytes-head (a ∷ []) = omega arith
from_be_bytes-head (a ∷ b ∷ []) = omega arith
from_be_bytes-head (a ∷ b ∷ c ∷ []) = omega arith
from_be_bytes-head (a ∷ b ∷ c ∷ d ∷ []) = omega arith
from_be_bytes-head (a ∷ b ∷ c ∷ d ∷ e ∷ []) = omega arith
from_be_bytes-head (a ∷ b ∷ c ∷ d ∷ e ∷ f ∷ []) = omega arith
from_be_bytes-head (a ∷ b ∷ c ∷ d ∷ e ∷ f ∷ g ∷ []) = omega arith
from_be_bytes-head (a ∷ b ∷ c ∷ d ∷ e ∷ f ∷ g ∷ h ∷ rest) = omega arith

-- the head of a short text, read with the zeros after it
pub head_of-short_text : (n : ℕ) (bytes : List ℕ) → IsShortText n bytes
    → head_of bytes ≡ head_of (take n bytes)
head_of-short_text n bytes is =
    ap head_of is.3 ∙ zeros_keep_head 8 0 _ (take n bytes)
