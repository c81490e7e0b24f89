use Rattle.std.proofs.Common.{◌≡◌, get_or, subst, ◌∙◌, inl, inr, arith}
use Rattle.epx_types.proofs.Common.{cases_lt, get_or_default}
use Rattle.epx_graph.proofs.Common.{edges_of}
use Rattle.epx_audit.specs.inner.UnsettledNodes.{Follows}
use Rattle.epx_audit.proofs.unsettled_nodes.follows_all.Goals as goal

pub follows-requires-clause-other : goal.follows-requires-clause-other
follows-requires-clause-other c = c.requires.ends c.loop-end.end-index 0 c.loop-end-test.true

pub loop-end-preserved : goal.loop-end-preserved
loop-end-preserved c g is i below = elim (cases_lt i c.loop-end.end-index) [
  | inl past ↦ c.loop-end.invariant g is i past
  | inr here ↦
      let last : c.loop-end.end-index ≡ i = omega arith in
      subst (λ i. Follows (edges_of g) c.args.on c.args.node (get_or c.args.ends.now i 0)) last
      (c.follows.ensures c.if-not-follows.false g is)
]

pub returns : goal.returns
returns c all g is k h =
    let own = get_or_default c.args.ends.now h.0 0 k h.1 ∙ h.2 in
    subst (Follows (edges_of g) c.args.on c.args.node) own
    (c.loop-end.invariant g is h.0 (omega (arith, h.1, c.loop-end-test.false)))
