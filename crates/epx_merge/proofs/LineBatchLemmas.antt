-- Lines that are gathered in one list of bytes, where each has a span.
use Rattle.std.proofs.Common.{◌≡◌, ◌≤◌, ◌+◌, ◌-◌, ◌++◌, ◌∷◌, ◌∙◌, ℕ, List, [], length, map, take}
use Rattle.std.proofs.Common.{drop, ap, ap₂, sym, refl, arith}
use Rattle.epx_types.proofs.Common.{All, length-append, length-drop, map-append, take-append-le}
use Rattle.epx_types.proofs.Common.{drop-append-le, drop-drop, take_all, All-head, All-tail}
use Rattle.epx_types.proofs.Common.{All-nil, All-cons, All-append}
use Rattle.std.proofs.lemmas.List.{take-map, drop-map}
use Rattle.epx_merge.specs.LogLines.{MeaningAt, meaning_at}
use Rattle.epx_merge.specs.declared.line_batch.Span.{Span}

-- the span ends within the bytes
abbrev pub IsWithin : List ℕ → Span → Type 0
IsWithin bytes s = (s.start ≤ s.end) × (s.end ≤ length bytes)

-- the line of a span
abbrev pub line_at : List ℕ → Span → MeaningAt
line_at bytes s = meaning_at s.place (take (s.end - s.start) (drop s.start bytes))

-- with more bytes at the end, a span within the old bytes has the same line
line_at-append : (bytes more : List ℕ) (s : Span) → IsWithin bytes s
    → line_at (bytes ++ more) s ≡ line_at bytes s
line_at-append bytes more s h =
    let start : s.start ≤ length bytes = omega (arith, h.0, h.1) in
    let inside : s.end - s.start ≤ length (drop s.start bytes) =
    omega (arith, h.0, h.1, length-drop s.start bytes) in
    ap (λ (b : List ℕ). meaning_at s.place b)
    (ap (take (s.end - s.start)) (drop-append-le s.start bytes more start)
    ∙ take-append-le (s.end - s.start) (drop s.start bytes) more inside)

-- with more bytes at the end, the spans within the old bytes have the same lines
pub lines_at-append : (bytes more : List ℕ) (spans : List Span) → All (IsWithin bytes) spans
    → map (line_at (bytes ++ more)) spans ≡ map (line_at bytes) spans
lines_at-append bytes more [] h = refl
lines_at-append bytes more (s ∷ spans) h =
    ap (λ (l : MeaningAt). l ∷ map (line_at (bytes ++ more)) spans)
    (line_at-append bytes more s (All-head (IsWithin bytes) s spans h))
    ∙ ap (λ (ls : List MeaningAt). line_at bytes s ∷ ls)
    (lines_at-append bytes more spans (All-tail (IsWithin bytes) s spans h))

-- with more bytes at the end, spans within the old bytes are within all bytes
pub within-append : (bytes more : List ℕ) (spans : List Span) → All (IsWithin bytes) spans
    → All (IsWithin (bytes ++ more)) spans
within-append bytes more spans h k d less =
    let here = h k d less in (here.0, omega (arith, here.1, length-append bytes more))

-- one more span is within the bytes
pub within-push : (bytes : List ℕ) (spans : List Span) (s : Span) → All (IsWithin bytes) spans
    → IsWithin bytes s → All (IsWithin bytes) (spans ++ s ∷ [])
within-push bytes spans s h here =
    let P = IsWithin bytes in All-append P spans (s ∷ []) h (All-cons P s [] here (All-nil P))

-- the lines after one more span, of a line in a part that was copied to this index
pub lines_at-push : (bytes part : List ℕ) (spans : List Span) (s : Span) (base done end : ℕ)
    → drop base bytes ≡ part → s.start ≡ base + done → s.end ≡ base + end
    → map (line_at bytes) (spans ++ s ∷ [])
    ≡ map (line_at bytes) spans ++ meaning_at s.place (take (end - done) (drop done part)) ∷ []
lines_at-push bytes part spans s base done end copied starts ends =
    let size : s.end - s.start ≡ end - done = omega (arith, starts, ends) in
    let begins : drop s.start bytes ≡ drop done part =
    ap (λ n. drop n bytes) starts ∙ sym (drop-drop done base bytes) ∙ ap (drop done) copied in
    map-append (line_at bytes) spans (s ∷ [])
    ∙ ap (λ (b : List ℕ). map (line_at bytes) spans ++ meaning_at s.place b ∷ [])
    (ap₂ take size begins)

-- the lines of a range of the spans are that range of the lines
pub lines_at-range : (bytes : List ℕ) (spans range : List Span) (lines : List MeaningAt)
    (start count n : ℕ) → map (line_at bytes) spans ≡ lines
    → range ≡ take count (drop start spans) → length range ≤ n
    → map (line_at bytes) (take n range) ≡ take count (drop start lines)
lines_at-range bytes spans range lines start count n is same all =
    let f = line_at bytes in
    ap (map f) (take_all n range all ∙ same)
    ∙ sym (take-map f count (drop start spans))
    ∙ ap (take count) (sym (drop-map f start spans) ∙ ap (drop start) is)
