use Rattle.std.proofs.Common.{◌≡◌, [], ◌∷◌, ◌++◌, ◌+◌, ◌∙◌, sym, ap, refl, length, arith}
use Rattle.epx_types.proofs.Common.{on_ok_weaker}
use Rattle.epx_committed.specs.inner.LineIndexes.{mark_of}
use Rattle.epx_committed.specs.LineRows.{firsts_at}
use Rattle.epx_committed.proofs.FirstLineLemmas.{Contains-at_mark, NamesItsLine-contains}
use Rattle.epx_committed.proofs.FirstLineLemmas.{Contains-firsts_at}
use Rattle.epx_committed.proofs.FirstLineLemmas.{AreFirstLines-same, AreFirstLines-push}
use Rattle.epx_committed.proofs.FirstLineLemmas.{NotesLines-push}
use Rattle.epx_committed.proofs.ledger.FirstLines.note_line.Goals as goal

pub line_in-first-requires : goal.line_in-first-requires
line_in-first-requires c =
    let noted = c.args.self.now in
    let row = c.index.result.now in
    let known =
    Contains-at_mark c.args.lists.now noted c.requires.firsts c.args.row.id c.in-Some.index row
    c.in-Some.ensures.some c.index.ensures in
    NamesItsLine-contains c.args.lists.now noted c.requires.firsts row known.0

pub returns-in-Some-clause-noted : goal.returns-in-Some-clause-noted
returns-in-Some-clause-noted c =
    let lists = c.args.lists.now in
    let noted = c.args.self.now in
    let row = c.index.result.now in
    let known = Contains-at_mark lists noted c.requires.firsts c.args.row.id c.in-Some.index row
    c.in-Some.ensures.some c.index.ensures in
    let first = Contains-firsts_at lists noted c.requires.firsts row c.args.line.now.instance.id
    c.line_in-first.result.now known.0 (known.1 ∙ sym c.requires.row.1) c.line_in-first.ensures in
    on_ok_weaker c.compare.result (λ noting. noting (firsts_at lists noted.rows.items) first)
    c.compare.ensures

pub returns-in_err-reserve-clause-firsts : goal.returns-in_err-reserve-clause-firsts
returns-in_err-reserve-clause-firsts c = AreFirstLines-same c.args.lists.now c.args.self.now
    c.requires.firsts _ c.in_err-reserve.ensures.items (λ x. refl)

pub returns-in_err-add-clause-firsts : goal.returns-in_err-add-clause-firsts
returns-in_err-add-clause-firsts c = AreFirstLines-same c.args.lists.now c.args.self.now
    c.requires.firsts _ c.in_ok-reserve.ensures.items c.in_err-add.ensures.err

pub returns-clause-firsts : goal.returns-clause-firsts
returns-clause-firsts c =
    let noted = c.args.self.now in
    let row = c.args.row in
    let items = c.in_ok-push.ensures.items ∙ ap (λ l. l ++ row ∷ []) c.in_ok-reserve.ensures.items
    in
    let here : mark_of c.add.new.self row.id ≡ length noted.rows.items + 1 =
    omega (
      arith,
      c.in_ok-add.ensures.here,
      c.len.ensures,
      ap length c.in_ok-reserve.ensures.items,
    ) in
    AreFirstLines-push c.args.lists.now noted c.requires.firsts c.args.line.now row c.requires.row
    c.in_default.ensures.none _ items here c.in_ok-add.ensures.apart

pub returns-clause-noted : goal.returns-clause-noted
returns-clause-noted c =
    let noted = c.args.self.now in
    let row = c.args.row in
    let items = c.in_ok-push.ensures.items ∙ ap (λ l. l ++ row ∷ []) c.in_ok-reserve.ensures.items
    in
    NotesLines-push c.args.lists.now noted c.requires.firsts c.args.line.now row c.requires.row
    c.in_default.ensures.none c.push.new.self.items noted.disagreements.entries items
