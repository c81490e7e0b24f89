-- Long texts, each with its head.
use Rattle.std.specs.Prelude.{◌≡◌, ℕ, List}
use Rattle.epx_types.specs.KeyHeads.{AreBytes, head_of}

-- the number is the head of the text, as `head_of` has it, and each number of the text is a byte
abbrev pub IsHeadOf : ℕ → List ℕ → Type 0
IsHeadOf head bytes = (head ≡ head_of bytes) × AreBytes bytes
