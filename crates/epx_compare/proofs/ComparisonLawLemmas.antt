-- Logs say one thing against each other: their lines determine the Ids that a comparison prints.
use Rattle.std.proofs.Common.{◌≡◌, ◌∙◌, ℕ, List, length, sym, subst}
use Rattle.epx_types.proofs.Common.{Placed, IsRising-is_unique}
use Rattle.epx_types.specs.declared.id.Id.{Id}
use Rattle.epx_merge.specs.LogLines.{placed_of, bad_lines_of}
use Rattle.epx_compare.specs.Comparisons.{IsComparison, comparison_text}
use Rattle.epx_compare.specs.MissingDeps.{AreMissingDeps}
use Rattle.epx_committed.proofs.InstanceCountLemmas.{AreNamedBy-is_unique}

missing_unique : (lines : List Placed) (ids xs ys : List Id) → AreMissingDeps lines ids xs
    → AreMissingDeps lines ids ys → xs ≡ ys
missing_unique lines ids xs ys p q = IsRising-is_unique xs ys p.rising q.rising
    (λ x among. (q.each x).1 ((p.each x).0 among)) (λ x among. (p.each x).1 ((q.each x).0 among))

pub IsComparison-is_unique : (logs : List (List ℕ)) (a b : List ℕ) → IsComparison logs a
    → IsComparison logs b → a ≡ b
IsComparison-is_unique logs a b p q =
    let lines = placed_of logs in
    let ids = AreNamedBy-is_unique lines p.ids q.ids p.named q.named in
    let ends = subst (λ xs. AreMissingDeps lines xs q.missing) (sym ids) q.open_ends in
    let missing = missing_unique lines p.ids p.missing q.missing p.open_ends ends in
    let texts : comparison_text (length logs) lines (bad_lines_of logs) p.ids p.missing
    ≡ comparison_text (length logs) lines (bad_lines_of logs) q.ids q.missing =
    λ i. comparison_text (length logs) lines (bad_lines_of logs) (ids i) (missing i) in
    p.printed ∙ texts ∙ sym q.printed
