use Rattle.std.proofs.Common.{All, List, ℕ, get_or, take, sym, subst, arith}
use Rattle.std.proofs.lemmas.List.Elements.{All-push}
use Rattle.epx_types.proofs.Common.{take_all, take_more}
use Rattle.epx_picture.specs.inner.NodeMarks.{HasMark}
use Rattle.epx_picture.proofs.picture_writer.are_marked.Goals as goal

pub loop-node-preserved : goal.loop-node-preserved
loop-node-preserved c =
    let nodes = c.args.nodes.now in
    let i = c.loop-node.node-index in
    subst (λ (js : List ℕ). All (HasMark c.args.marks.now) js)
    (sym (take_more nodes i 0 c.loop-node-test.true))
    (All-push (HasMark c.args.marks.now) (take i nodes) (get_or nodes i 0)
    c.loop-node.invariant c.if-not-marks-node.false)

pub returns : goal.returns
returns c = λ yes.
    let nodes = c.args.nodes.now in
    let i = c.loop-node.node-index in
    subst (λ (js : List ℕ). All (HasMark c.args.marks.now) js)
    (take_all i nodes (omega (arith, c.loop-node-test.false))) c.loop-node.invariant
