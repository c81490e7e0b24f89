use Rattle.std.proofs.Common.{◌+◌, ◌++◌, drop, option_map, sym, ap, ◌∙◌, arith}
use Rattle.serde_json.specs.View.{view}
use Rattle.epx_lines.specs.Elements.{every}
use Rattle.epx_lines.specs.OperationList.{op_of}
use Rattle.epx_lines.proofs.ElementLemmas.{ops_of-too_many, ops_of-begin, every-one_more}
use Rattle.epx_lines.proofs.ops.read_ops.Goals as goal

pub returns-then-len-gt-MAX_OPS : goal.returns-then-len-gt-MAX_OPS
returns-then-len-gt-MAX_OPS c = ops_of-too_many _ _ c.in-Some.ensures (omega arith)

pub loop-op-init : goal.loop-op-init
loop-op-init c = ops_of-begin _ c.in-Some.written.now.items _ _ c.in-Some.ensures (omega arith)
    c.deref-op-items.ensures.value c.in_ok-ops.ensures.items

pub loop-op-preserved : goal.loop-op-preserved
loop-op-preserved c =
    let written = c.deref-op-items.result.now in
    let read = sym (rw c.in-Some-2.is at c.in_ok-op.ensures) in
    every-one_more (λ v. op_of (view v)) written c.loop-op.op-index c.op-item.result c.in-Some-2.op
    c.loop-op.ops.items _ c.loop-op-test.true c.op-item.is read c.loop-op.invariant
    ∙ ap (λ ops. option_map (λ more. ops ++ more)
    (every (λ v. op_of (view v)) (drop (c.loop-op.op-index + 1) written)))
    (sym c.in_ok-push.ensures.items)
