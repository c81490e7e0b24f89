use Rattle.std.proofs.Common.{◌≡◌, ◌∙◌, Ok, length, sym, ap, subst, rules, arith}
use Rattle.epx_types.proofs.Common.{nil_from_length, nat_tests}
use Rattle.epx_lines.specs.Lines.{lines_of}
use Rattle.epx_verify.specs.SaidTexts.{IsSaid}
use Rattle.epx_verify.specs.inner.SaidReadings.{read_said_lines, said_reading}
use Rattle.epx_verify.proofs.SaidReadingLemmas.{IsSaid-from_reading, IsBadSaid-from_reading}
use Rattle.epx_verify.proofs.said.read_said.Goals as goal

pub returns-then-not-branch-clause-bad : goal.returns-then-not-branch-clause-bad
returns-then-not-branch-clause-bad c =
    IsBadSaid-from_reading c.args.bytes.now c.loop-rest.line (search rules)

pub returns-clause-said : goal.returns-clause-said
returns-clause-said c =
    let so_far = c.loop-rest.so_far in
    let over : length c.loop-rest.rest.now ≡ 0 = grind (arith, nat_tests) in
    let read : said_reading c.args.bytes.now ≡ Ok so_far =
    sym c.loop-rest.invariant.read ∙ ap (λ rest. read_said_lines so_far c.loop-rest.line
    (lines_of rest)) (nil_from_length c.loop-rest.rest.now over) in
    let all = c.in_ok-into_said.ensures in
    subst (λ rs. IsSaid c.args.bytes.now rs c.in_ok-into_said.field-0.store) (sym all.replies)
    (subst (IsSaid c.args.bytes.now so_far.replies) (sym all.stored)
    (IsSaid-from_reading c.args.bytes.now so_far read))
