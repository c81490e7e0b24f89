-- Short texts, each in 22 bytes: the text, and zeros after it.
use Rattle.std.specs.Prelude.{◌≡◌, ◌≤◌, ◌-◌, ◌++◌, ℕ, List, take, replicate, IsUtf8}
use Rattle.epx_types.specs.KeyHeads.{AreBytes}

-- n is at most 22; the first n bytes are a text in UTF-8, and 22 - n zeros follow them
abbrev pub IsShortText : ℕ → List ℕ → Type 0
IsShortText n bytes = (n ≤ 22) × ∥ IsUtf8 (take n bytes) ∥₁ × AreBytes (take n bytes)
    × (bytes ≡ take n bytes ++ replicate (22 - n) 0)
