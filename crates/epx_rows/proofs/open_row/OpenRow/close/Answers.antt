use Rattle.std.proofs.Common.{◌≡◌, ◌++◌, ◌∷◌, [], List, ℕ, length, sym, ap, subst, ◌∙◌, arith}
use Rattle.epx_rows.specs.between.OpenRows.{OpenRowView}
use Rattle.epx_rows.specs.RowEnds.{rows_from, AreRowEnds}
use Rattle.epx_rows.proofs.RowLemmas.{AreRowEnds-push, rows_from-push}
use Rattle.epx_rows.proofs.open_row.OpenRow.close.Goals as goal

pub invariant_of-result : goal.invariant_of-result
invariant_of-result c =
    let ends = c.self.inside.ends.items in
    let numbers = c.self.inside.numbers.items in
    let all : c.len.result ≡ length numbers =
    omega (arith, c.len.ensures, c.self.inside.numbers.ok.0) in
    subst (λ (es : List ℕ). AreRowEnds 0 es (length numbers)) (sym c.in_ok-push.ensures.items)
    (subst (λ (n : ℕ). AreRowEnds 0 (ends ++ c.len.result ∷ []) n) all
    (AreRowEnds-push 0 ends c.self.inside.start c.len.result
    (omega (arith, all, c.self.invariant.1)) c.self.invariant.0))

pub returns : goal.returns
returns c =
    let ends = c.self.inside.ends.items in
    let numbers = c.self.inside.numbers.items in
    ap (λ (es : List ℕ). rows_from 0 es numbers) c.in_ok-push.ensures.items
    ∙ rows_from-push 0 ends numbers c.self.inside.start c.len.result c.self.invariant.0
    (omega (arith, c.len.ensures, c.self.inside.numbers.ok.0))
    ∙ ap (λ (v : OpenRowView). v.rows ++ v.row ∷ []) c.self.view_is
