-- The line that begins at an index, and the lines after it.
use Rattle.std.proofs.Common.{◌≡◌, ◌<◌, ◌+◌, ◌-◌, ◌∷◌, ◌∙◌, ℕ, List, length, take, drop, ap, ap₂}
use Rattle.std.proofs.Common.{sym, subst, arith}
use Rattle.epx_types.proofs.Common.{drop-drop, drop_all, length-drop, take_all}
use Rattle.memchr.specs.Find.{Nowhere, Passes, is_byte}
use Rattle.epx_lines.specs.Lines.{lines_of}
use Rattle.epx_lines.proofs.FirstLineLemmas.{lines_of-first, lines_of-last}

-- the bytes from an index on
abbrev from_index : List ℕ → ℕ → List ℕ
from_index bytes start = take (length bytes - start) (drop start bytes)

from_index-is : (bytes : List ℕ) (start : ℕ) → from_index bytes start ≡ drop start bytes
from_index-is bytes start =
    take_all (length bytes - start) (drop start bytes) (omega (arith, length-drop start bytes))

-- the line ends at the first line feed
pub lines_of-to_feed : (bytes : List ℕ) (start len : ℕ) → len < length (from_index bytes start)
    → Nowhere (Passes (is_byte 10) (from_index bytes start)) 0 len
    → Passes (is_byte 10) (from_index bytes start) len
    → lines_of (drop start bytes)
    ≡ take (start + len - start) (drop start bytes) ∷ lines_of (drop (start + len + 1) bytes)
lines_of-to_feed bytes start len within before here =
    let same : len ≡ start + len - start = omega arith in
    let after : drop 1 (drop len (drop start bytes)) ≡ drop (start + len + 1) bytes =
    ap (drop 1) (drop-drop len start bytes) ∙ drop-drop 1 (start + len) bytes in
    subst (λ rest. lines_of rest ≡ take len rest ∷ lines_of (drop 1 (drop len rest)))
    (from_index-is bytes start) (lines_of-first (from_index bytes start) len within before here)
    ∙ ap₂ (λ n more. take n (drop start bytes) ∷ lines_of more) same after

-- with no line feed, the line ends with the bytes
pub lines_of-to_end : (bytes : List ℕ) (start : ℕ) → start < length bytes
    → Nowhere (Passes (is_byte 10) (from_index bytes start)) 0 (length (from_index bytes start))
    → lines_of (drop start bytes)
    ≡ take (length bytes - start) (drop start bytes) ∷ lines_of (drop (length bytes + 1) bytes)
lines_of-to_end bytes start within none =
    let rest = from_index bytes start in
    let is = from_index-is bytes start in
    let some : 0 < length rest =
    omega (arith, ap length is, length-drop start bytes, within) in
    ap lines_of (sym is) ∙ lines_of-last rest some none
    ∙ ap (λ more. rest ∷ lines_of more) (sym (drop_all (length bytes + 1) bytes (omega arith)))
