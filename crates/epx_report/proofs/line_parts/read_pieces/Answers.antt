use Rattle.std.proofs.Common.{◌≡◌, Bor, ℕ, List, slice_get, Some, rules}
use Rattle.epx_types.proofs.Common.{IfOk-weaker}
use Rattle.epx_lines.specs.Lines.{lines_of}
use Rattle.epx_report.specs.Bases.{Say}
use Rattle.epx_report.proofs.LinePieceLemmas.{Say-flat_map}
use Rattle.epx_report.proofs.line_parts.read_pieces.Goals as goal

pub returns : goal.returns
returns g c =
    let pieces = c.args.pieces.now in
    IfOk-weaker c.claimed_map.result _ _ (λ parts done.
    Say-flat_map (λ piece. lines_of piece.now) (λ part. part.items) pieces parts.items done.len
    (λ i inside.
    let part = done.each i inside in
    let answer = part.2 in
    let is : (piece : Bor (List ℕ)) → slice_get pieces i ≡ Some piece
    → Say (lines_of piece.now) part.0.items = search rules in
    (part.0, part.1, is))) c.claimed_map.ensures.ok
