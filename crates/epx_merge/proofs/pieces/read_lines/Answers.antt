use Rattle.std.proofs.Common.{◌≡◌, [], ◌∷◌, rules}
use Rattle.epx_merge.specs.LogLines.{bad_lines_at}
use Rattle.epx_merge.specs.between.ReadPieces.{SkipsOrReads, HasEntries}
use Rattle.epx_merge.proofs.ReadPieceLemmas.{IsReading-step, IsReadBeside-bad}
use Rattle.epx_merge.proofs.pieces.read_lines.Goals as goal

pub returns-in-Some : goal.returns-in-Some
returns-in-Some c =
    let line = c.index-lines-at.result in
    let bad = c.in-Some.bad in
    let is_bad : bad_lines_at line.place line.meaning
    ≡ record { place = bad.place; why = bad.why } ∷ [] = search rules in
    IsReadBeside-bad c.args.cache.now c.args.lines.now c.loop-at.at line
    c.loop-at.piece.entries.items c.loop-at-test.true c.index-lines-at.is c.loop-at.invariant
    HasEntries bad is_bad

pub loop-at-preserved : goal.loop-at-preserved
loop-at-preserved c =
    let line = c.index-lines-at.result in
    let next : SkipsOrReads c.args.cache.now line c.loop-at.piece.entries.items
    c.read_if_fresh.new.piece.entries.items = search rules in
    IsReading-step c.args.cache.now c.args.lines.now c.loop-at.at line
    c.loop-at.piece.entries.items c.loop-at-test.true c.index-lines-at.is c.loop-at.invariant _
    next
