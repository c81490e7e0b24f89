use Rattle.std.proofs.Common.{◌≡◌, ◌++◌, drop, option_map}
use Rattle.serde_json.specs.View.{view}
use Rattle.epx_lines.specs.Elements.{every}
use Rattle.epx_lines.specs.OperationList.{op_of, ops_of}
use Rattle.epx_lines.proofs.ops.read_ops.Given as goal

abbrev pub invariant-loop-op : goal.invariant-loop-op
invariant-loop-op l = ops_of (view l.fn.value)
    ≡ option_map (λ more. l.ops.items ++ more)
    (every (λ v. op_of (view v)) (drop l.op-index l.op-items))
