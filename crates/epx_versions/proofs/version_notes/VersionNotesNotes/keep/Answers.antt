use Rattle.std.proofs.Common.{◌≡◌, ◌∙◌, ◌++◌, [], List, Vec, ap, sym, subst}
use Rattle.epx_types.proofs.Common.{Global}
use Rattle.epx_merge.specs.between.LinePieces.{ArePiecesOf}
use Rattle.epx_versions.specs.declared.read_line.ReadLine.{ReadLine}
use Rattle.epx_versions.specs.between.NotedLines.{AreNotedLines}
use Rattle.epx_versions.specs.between.ReadMeanings.{AreReadSo}
use Rattle.epx_versions.proofs.NotedLineLemmas.{AreNotedLines-batch}
use Rattle.epx_versions.proofs.version_notes.VersionNotesNotes.keep.Goals as goal

pub returns : goal.returns
returns c = λ lines cut noted drops given.
    let seed = c.args.self.now.seed in
    let known = c.args.cache.now in
    let batch = c.args.batch.now in
    let self = c.note_batch.new.self in
    let cache = c.note_batch.new.cache in
    let read : c.replace-read.result.items ≡ c.args.pieces.now.items =
    ap (λ (v : Vec (Vec ReadLine Global) Global). v.items) c.replace-read.ensures.value in
    let taken = subst (λ (ps : List (Vec ReadLine Global)).
    ArePiecesOf (λ lines (piece : Vec ReadLine Global). AreReadSo seed known lines piece.items)
    batch ps) (sym read) given in
    let none : c.replace-read.new.dest.items ≡ [] =
    ap (λ (v : Vec (Vec ReadLine Global) Global). v.items) c.replace-read.ensures.after
    ∙ c.new-none.ensures.items in
    subst (λ (ps : List (Vec ReadLine Global)). AreNotedLines (lines ++ cut) self cache ps)
    (sym none) (AreNotedLines-batch self cache lines cut batch drops
    (c.in_ok-note_batch.ensures lines noted taken))
