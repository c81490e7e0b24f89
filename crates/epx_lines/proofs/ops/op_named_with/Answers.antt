use Rattle.std.proofs.Common.{◌≡◌, None, sym, ◌∙◌, arith}
use Rattle.epx_types.proofs.Common.{common_steps}
use Rattle.serde_json.specs.View.{view}
use Rattle.epx_lines.specs.Elements.{signed}
use Rattle.epx_lines.specs.OperationList.{key_of, op_with_value}
use Rattle.epx_lines.proofs.OperationValueLemmas.{value_or_null-neither}
use Rattle.epx_lines.proofs.ops.op_named_with.Goals as goal

pub returns-in_default-2 : goal.returns-in_default-2
unfolding op_with_value
returns-in_default-2 c =
    let d = view c.args.value.now in
    let no_number : signed d ≡ None = sym c.as_i64.ensures ∙ c.in_default.is in
    let no_key : key_of d ≡ None = sym c.in_ok-target.ensures ∙ c.in_default-2.is in
    let neither = value_or_null-neither d (sym c.is_null.ensures ∙ c.if-is_null.false) no_number in
    grind (arith, common_steps, neither)
