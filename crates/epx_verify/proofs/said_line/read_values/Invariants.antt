use Rattle.std.proofs.Common.{◌≡◌, ◌++◌, drop, option_map}
use Rattle.serde_json.specs.View.{view}
use Rattle.epx_lines.specs.Elements.{every}
use Rattle.epx_lines.specs.OperationList.{value_or_null}
use Rattle.epx_verify.specs.SaidLines.{values_of}
use Rattle.epx_verify.proofs.said_line.read_values.Given as goal

abbrev pub invariant-loop-element : goal.invariant-loop-element
invariant-loop-element l = values_of (view l.fn.value)
    ≡ option_map (λ more. l.values.items ++ more)
    (every (λ v. value_or_null (view v)) (drop l.element-index l.element-items))
