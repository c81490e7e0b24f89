use Rattle.std.proofs.Common.{◌≡◌, ◌∙◌, length, arith}
use Rattle.epx_types.proofs.Common.{nat_tests}
use Rattle.epx_linear.proofs.FindingLemmas.{or_linear-none, or_linear-some}
use Rattle.epx_linear.proofs.answer.or_linear.Goals as goal

pub returns-then-is_empty : goal.returns-then-is_empty
returns-then-is_empty c =
    let empty : length c.args.text.items ≡ 0 = grind (arith, nat_tests, c.args.text.ok) in
    c.in_ok-name_line.ensures ∙ or_linear-none c.args.text.items empty

pub returns : goal.returns
returns c =
    let some : ¬ (length c.args.text.items ≡ 0) =
    λ empty. grind (arith, nat_tests, empty, c.args.text.ok) in
    or_linear-some c.args.text.items some
