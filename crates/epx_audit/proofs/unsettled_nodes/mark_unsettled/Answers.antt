use Rattle.std.proofs.Common.{◌≡◌, inl, inr, ℕ, ◌+◌, ◌-◌, ◌<◌, List, Bool, true, false, length}
use Rattle.std.proofs.Common.{Contains, IsTrue, refl, sym, subst, ap, ◌∙◌, arith}
use Rattle.epx_types.proofs.Common.{false≢true, All-nil, get_or-set_same}
use Rattle.epx_graph.proofs.Common.{edges_of}
use Rattle.epx_components.specs.between.ReadyMarks.{is_marked}
use Rattle.epx_audit.specs.declared.doubtful_touches.DoubtfulTouch.{DoubtfulTouch}
use Rattle.epx_audit.specs.inner.UnsettledNodes.{AreTouchesOf, touch_in, Follows, IsBehindEnd}
use Rattle.epx_audit.proofs.UnsettledNodeLemmas.{AreInIndex, Contains-touch_in, HaveEndsIn-joined}
use Rattle.epx_audit.proofs.UnsettledNodeLemmas.{is_marked-set, HaveEnds}
use Rattle.epx_audit.proofs.UnsettledNodeLemmas.{FollowAll-next, Follows-from_ends, HaveEnds-next}
use Rattle.epx_audit.proofs.UnsettledNodeLemmas.{Follows-itself}
use Rattle.epx_audit.proofs.unsettled_nodes.mark_unsettled.Goals as goal
use Rattle.epx_audit.proofs.unsettled_nodes.mark_unsettled.Goals.{then-touch-key, else-touch-key}
use Rattle.epx_audit.proofs.unsettled_nodes.mark_unsettled.Goals.{then-touch, else-touch}
use Rattle.epx_audit.proofs.unsettled_nodes.mark_unsettled.Goals.{then-not-follows_all}
use Rattle.epx_audit.proofs.unsettled_nodes.mark_unsettled.Goals.{else-not-follows_all}
use Rattle.epx_audit.proofs.unsettled_nodes.mark_unsettled.Goals.{then-touch-2+in_ok-writing}
use Rattle.epx_audit.proofs.unsettled_nodes.mark_unsettled.Goals.{else-touch-2}

node_within : (on : Bool) (touches : List DoubtfulTouch) (n bound : ℕ) (t : DoubtfulTouch)
    → n < length touches → t ≡ touch_in on touches n → AreTouchesOf bound touches → t.node < bound
node_within on touches n bound t l is within =
    subst (λ (t : DoubtfulTouch). t.node < bound) (sym is)
    (within _ (Contains-touch_in on touches n l))

pub loop-step-init : goal.loop-step-init
loop-step-init c = record {
  len = refl;
  keeps = λ k h. h;
  key = λ some. absurd (omega arith);
  ends = record {
    touching_in = subst (AreInIndex c.args.reach.now) (sym c.new-touching.ensures.items)
        (All-nil (λ k. k < length c.args.reach.now.positions.items));
    writing_in = subst (AreInIndex c.args.reach.now) (sym c.new-writing.ensures.items)
        (All-nil (λ k. k < length c.args.reach.now.positions.items));
    ends = λ g is. record {
      touched = λ s below same. absurd (omega arith);
      written = λ s below same writes. absurd (omega arith);
    };
  };
  follow = λ g is s t below within same one. absurd (omega arith);
}

pub follows_all-requires-clause-node : goal.follows_all-requires-clause-node
follows_all-requires-clause-node c = node_within c.args.on c.args.touches.now c.loop-step.step
    (length c.args.reach.now.positions.items) c.touch_in-touch.result c.loop-step-test.true
    c.touch_in-touch.ensures c.requires.in_graph

pub follows_all-requires-clause-ends : goal.follows_all-requires-clause-ends
follows_all-requires-clause-ends c =
    let touches = c.args.touches.now in
    let n = c.loop-step.step in
    let joined = HaveEndsIn-joined c.args.reach.now c.args.on touches n c.loop-step-test.true
    c.requires.rise c.touch_in-touch.result c.touch_in-touch.ensures c.loop-step.key
    c.if-touch-key.key c.loop-step.touching.items c.loop-step.writing.items
    c.if-touch-key.touching.items c.if-touch-key.writing.items c.loop-step.invariant.key
    c.loop-step.invariant.ends (elim c.if-touch-key.branch [
      | then-touch-key w ↦ inl (
        w.if-touch-key.true,
        w.key-is,
        ap (λ v. v.items) w.touching-is ∙ w.clear.ensures.items,
        ap (λ v. v.items) w.writing-is ∙ w.clear-then-touch-key.ensures.items,
      )
      | else-touch-key w ↦ inr (
        w.if-touch-key.false,
        w.key-is,
        ap (λ v. v.items) w.touching-is,
        ap (λ v. v.items) w.writing-is,
      )
    ]) in
    subst (AreInIndex c.args.reach.now) (sym c.deref.ensures.value) (elim c.if-touch.branch [
      | then-touch w ↦ subst (AreInIndex c.args.reach.now)
          (sym (ap (λ b. b.now.items) w.before-is))
          joined.1.touching_in
      | else-touch w ↦ subst (AreInIndex c.args.reach.now)
          (sym (ap (λ b. b.now.items) w.before-is))
          joined.1.writing_in
    ])

pub bounds-unsettled-touch : goal.bounds-unsettled-touch
bounds-unsettled-touch c =
    let within = node_within c.args.on c.args.touches.now c.loop-step.step
    (length c.args.unsettled.now) c.touch_in-touch.result c.loop-step-test.true
    c.touch_in-touch.ensures c.requires.touches in
    omega (arith, within, c.loop-step.invariant.len)

pub with_end-requires-clause-node : goal.with_end-requires-clause-node
with_end-requires-clause-node c = node_within c.args.on c.args.touches.now c.loop-step.step
    (length c.args.reach.now.positions.items) c.touch_in-touch.result c.loop-step-test.true
    c.touch_in-touch.ensures c.requires.in_graph

pub with_end-requires-clause-ends : goal.with_end-requires-clause-ends
with_end-requires-clause-ends c =
    let touches = c.args.touches.now in
    let n = c.loop-step.step in
    let joined = HaveEndsIn-joined c.args.reach.now c.args.on touches n c.loop-step-test.true
    c.requires.rise c.touch_in-touch.result c.touch_in-touch.ensures c.loop-step.key
    c.if-touch-key.key c.loop-step.touching.items c.loop-step.writing.items
    c.if-touch-key.touching.items c.if-touch-key.writing.items c.loop-step.invariant.key
    c.loop-step.invariant.ends (elim c.if-touch-key.branch [
      | then-touch-key w ↦ inl (
        w.if-touch-key.true,
        w.key-is,
        ap (λ v. v.items) w.touching-is ∙ w.clear.ensures.items,
        ap (λ v. v.items) w.writing-is ∙ w.clear-then-touch-key.ensures.items,
      )
      | else-touch-key w ↦ inr (
        w.if-touch-key.false,
        w.key-is,
        ap (λ v. v.items) w.touching-is,
        ap (λ v. v.items) w.writing-is,
      )
    ]) in
    subst (AreInIndex c.args.reach.now) (sym c.deref-in-loop-step.ensures.value)
    joined.1.touching_in

pub with_end-requires-then-touch-2-clause-node : goal.with_end-requires-then-touch-2-clause-node
with_end-requires-then-touch-2-clause-node c = node_within c.args.on c.args.touches.now
    c.loop-step.step (length c.args.reach.now.positions.items) c.touch_in-touch.result
    c.loop-step-test.true c.touch_in-touch.ensures c.requires.in_graph

pub with_end-requires-then-touch-2-clause-ends : goal.with_end-requires-then-touch-2-clause-ends
with_end-requires-then-touch-2-clause-ends c =
    let touches = c.args.touches.now in
    let n = c.loop-step.step in
    let joined = HaveEndsIn-joined c.args.reach.now c.args.on touches n c.loop-step-test.true
    c.requires.rise c.touch_in-touch.result c.touch_in-touch.ensures c.loop-step.key
    c.if-touch-key.key c.loop-step.touching.items c.loop-step.writing.items
    c.if-touch-key.touching.items c.if-touch-key.writing.items c.loop-step.invariant.key
    c.loop-step.invariant.ends (elim c.if-touch-key.branch [
      | then-touch-key w ↦ inl (
        w.if-touch-key.true,
        w.key-is,
        ap (λ v. v.items) w.touching-is ∙ w.clear.ensures.items,
        ap (λ v. v.items) w.writing-is ∙ w.clear-then-touch-key.ensures.items,
      )
      | else-touch-key w ↦ inr (
        w.if-touch-key.false,
        w.key-is,
        ap (λ v. v.items) w.touching-is,
        ap (λ v. v.items) w.writing-is,
      )
    ]) in
    subst (AreInIndex c.args.reach.now) (sym c.deref-then-touch-2.ensures.value)
    joined.1.writing_in

pub loop-step-preserved : goal.loop-step-preserved
loop-step-preserved c =
    let touches = c.args.touches.now in
    let n = c.loop-step.step in
    let joined = HaveEndsIn-joined c.args.reach.now c.args.on touches n c.loop-step-test.true
    c.requires.rise c.touch_in-touch.result c.touch_in-touch.ensures c.loop-step.key
    c.if-touch-key.key c.loop-step.touching.items c.loop-step.writing.items
    c.if-touch-key.touching.items c.if-touch-key.writing.items c.loop-step.invariant.key
    c.loop-step.invariant.ends (elim c.if-touch-key.branch [
      | then-touch-key w ↦ inl (
        w.if-touch-key.true,
        w.key-is,
        ap (λ v. v.items) w.touching-is ∙ w.clear.ensures.items,
        ap (λ v. v.items) w.writing-is ∙ w.clear-then-touch-key.ensures.items,
      )
      | else-touch-key w ↦ inr (
        w.if-touch-key.false,
        w.key-is,
        ap (λ v. v.items) w.touching-is,
        ap (λ v. v.items) w.writing-is,
      )
    ]) in
    let on = c.args.on in
    let t = c.touch_in-touch.result in
    let now = touch_in on touches n in
    let is : t ≡ now = c.touch_in-touch.ensures in
    let l : n < length touches = c.loop-step-test.true in
    let touching = c.if-touch-key.touching.items in
    let writing = c.if-touch-key.writing.items in
    let all = c.in_ok-touching.touching.items in
    let writers = c.if-touch-2.writing.items in
    let before = c.deref.result.now in
    let old = c.loop-step.unsettled in
    let more = c.if-not-follows_all.unsettled in
    let within = node_within on touches n (length c.args.unsettled.now) t l is c.requires.touches in
    let node_in : t.node < length old = omega (arith, within, c.loop-step.invariant.len) in
    let keeps : (k : ℕ) → IsTrue (is_marked old k) → IsTrue (is_marked more k) =
    λ k h. elim c.if-not-follows_all.branch [
      | then-not-follows_all w ↦ subst (λ (ms : List Bool). IsTrue (is_marked ms k))
          (sym w.unsettled-is) (is_marked-set old t.node k node_in h)
      | else-not-follows_all w ↦ subst (λ (ms : List Bool). IsTrue (is_marked ms k))
          (sym w.unsettled-is) h
    ] in
    let if_writes : IsTrue now.writes → before ≡ touching = λ writes. elim c.if-touch.branch [
      | then-touch w ↦ c.deref.ensures.value ∙ ap (λ b. b.now.items) w.before-is
      | else-touch w ↦ absurd (false≢true
          (sym w.if-touch.false ∙ ap (λ (t : DoubtfulTouch). t.writes) is ∙ writes))
    ] in
    let if_reads : now.writes ≡ false → before ≡ writing = λ reads. elim c.if-touch.branch [
      | then-touch w ↦ absurd (false≢true
          (sym reads ∙ sym (ap (λ (t : DoubtfulTouch). t.writes) is) ∙ w.if-touch.true))
      | else-touch w ↦ c.deref.ensures.value ∙ ap (λ b. b.now.items) w.before-is
    ] in
    let own_writes : IsTrue now.writes → Contains writers now.node =
    λ writes. elim c.if-touch-2.branch [
      | then-touch-2+in_ok-writing w ↦ subst (λ (t : DoubtfulTouch). Contains writers t.node) is
          (subst (λ (xs : List ℕ). Contains xs t.node) (sym (ap (λ v. v.items) w.writing-is))
          w.in_ok-writing.ensures.node)
      | else-touch-2 w ↦ absurd (false≢true
          (sym w.if-touch-2.false ∙ ap (λ (t : DoubtfulTouch). t.writes) is ∙ writes))
    ] in
    record {
      len = omega (arith, c.if-not-follows_all.auto.unsettled, c.loop-step.invariant.len);
      keeps = λ k h. keeps k (c.loop-step.invariant.keeps k h);
      key = λ some. let at : n ≡ n + 1 - 1 = omega arith in
          subst (λ i. (touch_in on touches i).key ≡ c.if-touch-key.key) at (sym joined.0);
      ends = record {
        touching_in = c.in_ok-touching.ensures.in_graph;
        writing_in = elim c.if-touch-2.branch [
          | then-touch-2+in_ok-writing w ↦ subst (AreInIndex c.args.reach.now)
              (sym (ap (λ v. v.items) w.writing-is))
              w.in_ok-writing.ensures.in_graph
          | else-touch-2 w ↦ subst (AreInIndex c.args.reach.now)
              (sym (ap (λ v. v.items) w.writing-is))
              joined.1.writing_in
        ];
        ends = λ g index.
            let behind : (k : ℕ) → Contains writing k → IsBehindEnd (edges_of g) on writers k =
            λ k h. elim c.if-touch-2.branch [
              | then-touch-2+in_ok-writing w ↦ subst (λ xs. IsBehindEnd (edges_of g) on xs k)
                  (sym (ap (λ v. v.items) w.writing-is))
                  (w.in_ok-writing.ensures.behind g index k (subst (λ (xs : List ℕ). Contains xs k)
                  (sym w.deref-then-touch-2.ensures.value) h))
              | else-touch-2 w ↦ (
                k,
                subst (λ (xs : List ℕ). Contains xs k) (sym (ap (λ v. v.items) w.writing-is)) h,
                Follows-itself (edges_of g) on k k refl,
              )
            ] in
            subst (λ key. HaveEnds (edges_of g) on touches key all writers (n + 1)) (sym joined.0)
            (HaveEnds-next (edges_of g) on touches n l touching writing all writers
            (joined.1.ends g index)
            (λ k h. c.in_ok-touching.ensures.behind g index k
            (subst (λ (xs : List ℕ). Contains xs k) (sym c.deref-in-loop-step.ensures.value) h))
            (subst (λ (t : DoubtfulTouch). Contains all t.node) is c.in_ok-touching.ensures.node)
            behind own_writes);
      };
      follow = λ g index. FollowAll-next (edges_of g) on touches n l old more
          (c.loop-step.invariant.follow g index) keeps (elim c.if-not-follows_all.branch [
            | then-not-follows_all w ↦ inl
                (subst (λ (t : DoubtfulTouch). IsTrue (is_marked more t.node)) is
                (subst (λ (ms : List Bool). IsTrue (is_marked ms t.node)) (sym w.unsettled-is)
                (get_or-set_same old t.node true false node_in)))
            | else-not-follows_all w ↦ inr
                (Follows-from_ends (edges_of g) on touches n l touching writing before
                (joined.1.ends g index) if_writes if_reads
                (λ k h. subst (λ (t : DoubtfulTouch). Follows (edges_of g) on t.node k) is
                (c.follows_all.ensures w.if-not-follows_all.false g index k h)))
          ]);
    }
