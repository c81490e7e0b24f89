use Rattle.std.proofs.Common.{◌≡◌, ◌∙◌, ℕ, ◌+◌, ◌∷◌, ◌++◌, [], List, Some, flat_map, take}
use Rattle.std.proofs.Common.{slice_get, sym, ap}
use Rattle.epx_types.proofs.Common.{take_more, flat_map_more, slice_get_within}
use Rattle.epx_types.proofs.Common.{get_or_from_slice_get}
use Rattle.epx_types.specs.declared.id.Id.{Id}
use Rattle.epx_report.specs.ReportLines.{line_of}
use Rattle.epx_compare.specs.ComparisonLines.{missing_count_data}
use Rattle.epx_compare.proofs.missing.append_counts.Goals as goal

pub loop-i-preserved : goal.loop-i-preserved
loop-i-preserved c =
    let entries : List (Id × ℕ) = c.args.counts.now.entries in
    let i = c.loop-i.i in
    let e : Id × ℕ = (c.in-Some.id.now, c.in-Some.count.now) in
    let line : Id × ℕ → List ℕ = λ d. line_of (missing_count_data d.0 d.1) in
    let at : slice_get entries i ≡ Some e = sym c.in-Some.ensures.entry in
    let more : take (i + 1) entries ≡ take i entries ++ e ∷ [] =
    take_more entries i e (slice_get_within entries i e at)
    ∙ ap (λ d. take i entries ++ d ∷ []) (get_or_from_slice_get entries i e e at) in
    c.in_ok-append_missing.ensures ∙ (ap (λ t. t ++ line e) c.loop-i.invariant
    ∙ (flat_map_more line c.args.text.now.items (take i entries) e
    ∙ ap (λ l. c.args.text.now.items ++ flat_map line l) (sym more)))
