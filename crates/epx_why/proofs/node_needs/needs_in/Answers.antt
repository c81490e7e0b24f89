use Rattle.std.proofs.Common.{◌≡◌, ◌<◌, ◌≤◌, ◌⊎◌, ◌+◌, ℕ, sym, subst, inl, inr, arith}
use Rattle.epx_why.specs.declared.need.Need.{Need}
use Rattle.epx_why.specs.inner.NodeNeeds.{AreNeedsIn}
use Rattle.epx_why.proofs.NodeNeedLemmas.{AreNeedsIn-skip, AreNeedsIn-push}
use Rattle.epx_why.proofs.node_needs.needs_in.Goals as goal

pub loop-node-preserved-in_default : goal.loop-node-preserved-in_default
loop-node-preserved-in_default c =
    AreNeedsIn-skip c.args.graph.now c.args.distances.now c.args.start c.loop-node.node
    c.loop-node.needs.items c.in_default.is c.loop-node.invariant

pub loop-node-preserved : goal.loop-node-preserved
loop-node-preserved c =
    let w : Need = record { id = c.id.result; steps = c.in-Some.steps } in
    let k = c.loop-node.node in
    let g = c.args.graph.now in
    let kind : (k < g.committed) ⊎ (g.committed ≤ c.args.start) =
    elim c.requires.one_kind [
      | inl low ↦ inl (omega arith)
      | inr high ↦ inr high
    ] in
    subst (AreNeedsIn g c.args.distances.now c.args.start (k + 1)) (sym c.in_ok-push.ensures.items)
    (AreNeedsIn-push g c.args.distances.now c.args.start c.requires.graph k c.loop-node.needs.items
    w
    (omega arith) kind (record { id = c.id.ensures; steps = c.in-Some.is }) c.loop-node.invariant)

pub returns : goal.returns
returns c =
    let g = c.args.graph.now in
    let end : c.loop-node.node ≡ c.args.end = omega arith in
    subst (λ (n : ℕ). AreNeedsIn g c.args.distances.now c.args.start n c.loop-node.needs.items) end
    c.loop-node.invariant
