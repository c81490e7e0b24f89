-- A batch has all lines but some blank ones, which commit nothing and are not bad.
use Rattle.std.proofs.Common.{◌≡◌, ◌∙◌, ◌++◌, ◌∷◌, List, [], Ok, inl, inr, flat_map, sym, ap}
use Rattle.epx_types.proofs.Common.{Contains-nil}
use Rattle.epx_lines.specs.declared.Line.TheVariants.{Blank}
use Rattle.epx_merge.specs.LogLines.{MeaningAt, bad_lines_among, bad_lines_at}
use Rattle.epx_merge.specs.LogLines.{placed_among, placed_at}
use Rattle.epx_merge.specs.between.RedundantLines.{DropsCached}

module _ {B : Type 0} (says : MeaningAt → List B)
    (none : (line : MeaningAt) → line.meaning ≡ Ok Blank → says line ≡ []) where
  blank_dropped : (cut batch : List MeaningAt) → DropsCached [] cut batch
      → flat_map says batch ≡ flat_map says cut
  blank_dropped [] batch h = ap (flat_map says) h
  blank_dropped (line ∷ cut) batch (inl h) =
      ap (flat_map says) h.1 ∙ ap (λ rest. says line ++ rest) (blank_dropped cut h.0 h.2)
  blank_dropped (line ∷ cut) batch (inr (inl blank, h)) =
      blank_dropped cut batch h ∙ ap (λ here. here ++ flat_map says cut) (sym (none line blank))
  blank_dropped (line ∷ cut) batch (inr (inr has, h)) = absurd (Contains-nil line.meaning has)

-- the batch commits what the lines commit
pub placed_among-batch : (cut batch : List MeaningAt) → DropsCached [] cut batch
    → placed_among batch ≡ placed_among cut
placed_among-batch cut batch h = blank_dropped (λ line. placed_at line.place line.meaning)
    (λ line blank. ap (placed_at line.place) blank) cut batch h

-- the bad lines of the batch are those of the lines
pub bad_lines_among-batch : (cut batch : List MeaningAt) → DropsCached [] cut batch
    → bad_lines_among batch ≡ bad_lines_among cut
bad_lines_among-batch cut batch h = blank_dropped (λ line. bad_lines_at line.place line.meaning)
    (λ line blank. ap (bad_lines_at line.place) blank) cut batch h
