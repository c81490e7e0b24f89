use Rattle.std.proofs.Common.{◌≡◌, ◌⊎◌, inl, inr, ◌<◌, ◌++◌, ◌∷◌, [], get_or, length}
use Rattle.std.proofs.Common.{All, Contains, refl, sym, subst, ap, ◌∙◌, arith}
use Rattle.epx_types.proofs.Common.{cases_lt, get_or_default, All-push, All-nil}
use Rattle.epx_types.proofs.Common.{Contains-push, Contains-append_left}
use Rattle.epx_graph.proofs.Common.{edges_of}
use Rattle.epx_audit.specs.inner.UnsettledNodes.{Follows, IsBehindEnd}
use Rattle.epx_audit.proofs.UnsettledNodeLemmas.{Follows-itself}
use Rattle.epx_audit.proofs.unsettled_nodes.with_end.Goals as goal
use Rattle.epx_audit.proofs.unsettled_nodes.with_end.Goals.{then-not-follows+in_ok-push}
use Rattle.epx_audit.proofs.unsettled_nodes.with_end.Goals.{else-not-follows}

pub loop-end-init : goal.loop-end-init
loop-end-init c = record {
  in_graph = subst (All (λ k. k < length c.args.reach.now.positions.items))
      (sym c.new-more.ensures.items) (All-nil (λ k. k < length c.args.reach.now.positions.items));
  behind = λ g is i below. absurd (omega arith);
}

pub follows-requires-clause-other : goal.follows-requires-clause-other
follows-requires-clause-other c = c.requires.ends c.loop-end.end-index 0 c.loop-end-test.true

pub loop-end-preserved : goal.loop-end-preserved
loop-end-preserved c =
    let n = c.loop-end.end-index in
    let ends = c.args.ends.now in
    let end = get_or ends n 0 in
    let old = c.loop-end.more.items in
    let within = c.requires.ends n 0 c.loop-end-test.true in
    elim c.if-not-follows.branch [
      | then-not-follows+in_ok-push w ↦
          let new : c.if-not-follows.more.items ≡ old ++ end ∷ [] =
          ap (λ v. v.items) w.more-is ∙ w.in_ok-push.ensures.items in
          record {
            in_graph = subst (All (λ k. k < length c.args.reach.now.positions.items)) (sym new)
                (All-push (λ k. k < length c.args.reach.now.positions.items) old end
                c.loop-end.invariant.in_graph within);
            behind = λ g is i below. subst (λ more. Contains more (get_or ends i 0)
                ⊎ Follows (edges_of g) c.args.on c.args.node (get_or ends i 0)) (sym new)
                (elim (cases_lt i n) [
                  | inl past ↦ elim (c.loop-end.invariant.behind g is i past) [
                    | inl held ↦ inl (Contains-append_left old (end ∷ []) _ held)
                    | inr follows ↦ inr follows
                  ]
                  | inr here ↦
                      let last : n ≡ i = omega arith in
                      inl (subst (λ i. Contains (old ++ end ∷ []) (get_or ends i 0)) last
                      (Contains-push old end))
                ]);
          }
      | else-not-follows w ↦
          let same : c.if-not-follows.more.items ≡ old = ap (λ v. v.items) w.more-is in
          record {
            in_graph = subst (All (λ k. k < length c.args.reach.now.positions.items)) (sym same)
                c.loop-end.invariant.in_graph;
            behind = λ g is i below. subst (λ more. Contains more (get_or ends i 0)
                ⊎ Follows (edges_of g) c.args.on c.args.node (get_or ends i 0)) (sym same)
                (elim (cases_lt i n) [
                  | inl past ↦ c.loop-end.invariant.behind g is i past
                  | inr here ↦
                      let last : n ≡ i = omega arith in
                      inr (subst (λ i. Follows (edges_of g) c.args.on c.args.node
                      (get_or ends i 0)) last (c.follows.ensures w.if-not-follows.false g is))
                ]);
          }
    ]

pub returns-clause-in_graph : goal.returns-clause-in_graph
returns-clause-in_graph c =
    subst (All (λ k. k < length c.args.reach.now.positions.items))
    (sym c.in_ok-push-2.ensures.items)
    (All-push (λ k. k < length c.args.reach.now.positions.items) c.loop-end.more.items
    c.args.node c.loop-end.invariant.in_graph c.requires.node)

pub returns-clause-node : goal.returns-clause-node
returns-clause-node c = subst (λ more. Contains more c.args.node)
    (sym c.in_ok-push-2.ensures.items) (Contains-push c.loop-end.more.items c.args.node)

pub returns-clause-behind : goal.returns-clause-behind
returns-clause-behind c g is k h =
    let ends = c.args.ends.now in
    let old = c.loop-end.more.items in
    let own = get_or_default ends h.0 0 k h.1 ∙ h.2 in
    subst (λ more. IsBehindEnd (edges_of g) c.args.on more k) (sym c.in_ok-push-2.ensures.items)
    (elim (c.loop-end.invariant.behind g is h.0 (omega (arith, h.1, c.loop-end-test.false))) [
      | inl held ↦ (
        k,
        Contains-append_left old (c.args.node ∷ []) k (subst (Contains old) own held),
        Follows-itself (edges_of g) c.args.on k k refl,
      )
      | inr follows ↦ (
        c.args.node,
        Contains-push old c.args.node,
        subst (Follows (edges_of g) c.args.on c.args.node) own follows,
      )
    ])
