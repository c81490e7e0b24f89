use Rattle.std.proofs.Common.{◌≡◌, ◌∙◌, Ok, length, sym, ap, rules, arith}
use Rattle.epx_types.proofs.Common.{nil_from_length, nat_tests}
use Rattle.epx_lines.specs.Lines.{lines_of}
use Rattle.epx_report.specs.inner.ListReadings.{read_list_lines, list_reading}
use Rattle.epx_report.proofs.ListLemmas.{IsList-from_reading, IsBadList-from_reading}
use Rattle.epx_report.proofs.list.read_list.Goals as goal

pub returns-then-not-branch-clause-bad : goal.returns-then-not-branch-clause-bad
returns-then-not-branch-clause-bad c =
    IsBadList-from_reading c.args.bytes.now c.loop-rest.line (search rules)

pub returns-clause-list : goal.returns-clause-list
returns-clause-list c =
    let ids = c.loop-rest.ids.items in
    let over : length c.loop-rest.rest.now ≡ 0 = grind (arith, nat_tests) in
    let read : list_reading c.args.bytes.now ≡ Ok ids =
    sym c.loop-rest.invariant.read ∙ ap (λ rest. read_list_lines ids c.loop-rest.line
    (lines_of rest)) (nil_from_length c.loop-rest.rest.now over) in
    IsList-from_reading c.args.bytes.now ids read
