-- What lines say, part by part.
use Rattle.std.proofs.Common.{◌≡◌, Bor, not, List, [], ◌∷◌, ◌++◌, Option, map, flat_map, refl}
use Rattle.std.proofs.Common.{ap, ◌∙◌, ℕ}
use Rattle.epx_types.proofs.Common.{map-append, filter-append}
use Rattle.epx_lines.specs.Meaning.{is_blank}
use Rattle.epx_report.specs.Lists.{filled_lines}
use Rattle.epx_linear.specs.declared.client_call.ClientCall.{ClientCall}
use Rattle.epx_linear.specs.HistoryLines.{call_line_of}
use Rattle.epx_linear.specs.inner.HistoryReadings.{said_calls}

pub map-flat_map : {X Y Z : Type 0} (f : Y → Z) (g : X → List Y) (xs : List X)
    → map f (flat_map g xs) ≡ flat_map (λ x. map f (g x)) xs
map-flat_map f g [] = refl
map-flat_map f g (x ∷ xs) =
    map-append f (g x) (flat_map g xs) ∙ ap (λ rest. map f (g x) ++ rest) (map-flat_map f g xs)

-- what lines say that are behind references
abbrev pub calls_behind : List (Bor (List ℕ)) → List (Option ClientCall)
calls_behind lines = said_calls (map (λ l. l.now) lines)

pub calls_behind-append : (front back : List (Bor (List ℕ)))
    → calls_behind (front ++ back) ≡ calls_behind front ++ calls_behind back
calls_behind-append front back =
    let ls = map (λ (l : Bor (List ℕ)). l.now) front in
    let ms = map (λ (l : Bor (List ℕ)). l.now) back in
    ap said_calls (map-append (λ (l : Bor (List ℕ)). l.now) front back)
    ∙ ap (map call_line_of) (filter-append (λ l. not (is_blank l)) ls ms)
    ∙ map-append call_line_of (filled_lines ls) (filled_lines ms)
