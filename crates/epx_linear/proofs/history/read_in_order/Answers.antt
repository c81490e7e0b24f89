use Rattle.std.proofs.Common.{◌≡◌, ◌∙◌, Ok, length, sym, ap, rules, arith}
use Rattle.epx_types.proofs.Common.{nil_from_length, nat_tests}
use Rattle.epx_lines.specs.Lines.{lines_of}
use Rattle.epx_linear.specs.inner.HistoryReadings.{read_call_lines, history_reading}
use Rattle.epx_linear.proofs.HistoryLemmas.{IsHistoryText-read, IsBadHistory-read}
use Rattle.epx_linear.proofs.history.read_in_order.Goals as goal

pub returns-then-not-branch-clause-bad : goal.returns-then-not-branch-clause-bad
returns-then-not-branch-clause-bad c =
    IsBadHistory-read c.args.bytes.now c.loop-rest.line (search rules)

pub returns-clause-history : goal.returns-clause-history
returns-clause-history c =
    let calls = c.loop-rest.calls.items in
    let over : length c.loop-rest.rest.now ≡ 0 = grind (arith, nat_tests) in
    let read : history_reading c.args.bytes.now ≡ Ok calls =
    sym c.loop-rest.invariant.read ∙ ap (λ rest. read_call_lines calls c.loop-rest.line
    (lines_of rest)) (nil_from_length c.loop-rest.rest.now over) in
    IsHistoryText-read c.args.bytes.now calls read
