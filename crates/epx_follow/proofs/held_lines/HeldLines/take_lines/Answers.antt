use Rattle.std.proofs.Common.{◌≡◌, ◌∙◌, [], ap, arith, false, refl, subst, sym}
use Rattle.std.proofs.lemmas.Result.{err_from_is_err_and}
use Rattle.epx_types.specs.declared.place.Place.{Place}
use Rattle.epx_lines.specs.Meaning.{is_blank}
use Rattle.epx_follow.specs.LinesTaken.{EndsIf}
use Rattle.epx_follow.specs.inner.HeldLines.{view_of}
use Rattle.epx_follow.proofs.OpenBatchLemmas.{StopsAmong-held, TakesLine-goes_on, HoldsBytes-step}
use Rattle.epx_follow.proofs.OpenBatchLemmas.{RefusesLine-text, RefusesText-not_write}
use Rattle.epx_follow.proofs.held_lines.HeldLines.take_lines.Goals as goal

pub returns-in_err-take_read-clause-refused : goal.returns-in_err-take_read-clause-refused
returns-in_err-take_read-clause-refused c =
    let v = c.args.executor.now in
    let line = c.cut_line.result.0.now in
    let held = view_of v c.lines.self in
    let fault = c.in_err-take_read.field-0.0 in
    let filled : is_blank line ≡ false =
    sym c.is_blank_line.ensures ∙ c.if-is_blank_line.false in
    let p = err_from_is_err_and c.from_residual.result c.from_residual.ensures.1 in
    rw (p.1, p.2)
    (λ was. StopsAmong-held c.args.each (view_of v c.args.self.now) held c.args.bytes.now
    c.lines.rest.now line c.cut_line.result.1.now fault was c.lines.invariant.3
    c.cut_line.ensures.lines
    (RefusesLine-text c.args.each line held fault filled
    (c.in_err-take_read.ensures.refused line c.read-read.ensures)))

pub returns-in_err-take_read-clause-unwritten : goal.returns-in_err-take_read-clause-unwritten
returns-in_err-take_read-clause-unwritten c =
    let p = err_from_is_err_and c.from_residual.result c.from_residual.ensures.1 in
    rw (p.1, p.2) (RefusesText-not_write c.cut_line.result.0.now c.lines.self.next
    c.in_err-take_read.field-0.0
    (c.in_err-take_read.ensures.refused c.cut_line.result.0.now c.read-read.ensures))

pub lines-preserved : goal.lines-preserved
lines-preserved c =
    let v = c.args.executor.now in
    let line = c.cut_line.result.0.now in
    let held = view_of v c.lines.self in
    let next = view_of v c.take_read.new.self in
    let filled : is_blank line ≡ false =
    sym c.is_blank_line.ensures ∙ c.if-is_blank_line.false in
    let counted = ap (λ (p : Place). p.line) c.in_ok-take_read.ensures.counted in (
      c.in_ok-take_read.ensures.held,
      omega (arith, c.lines.invariant.1, counted, c.cut_line.ensures.rest),
      omega (arith, c.lines.invariant.2, c.cut_line.ensures.rest),
      HoldsBytes-step c.args.each (view_of v c.args.self.now) held next c.args.bytes.now
          c.lines.rest.now line c.cut_line.result.1.now c.lines.invariant.3
          c.cut_line.ensures.lines
          (TakesLine-goes_on c.args.each line held next next [] filled
          (c.in_ok-take_read.ensures.taken line c.read-read.ensures)
          (subst (λ each. EndsIf each next next []) (sym c.if-each.false) (refl, refl))),
    )
