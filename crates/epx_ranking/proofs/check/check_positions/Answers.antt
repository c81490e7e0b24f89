use Rattle.std.proofs.Common.{◌≡◌, ◌<◌, Some, None, inl, inr, slice_get, subst, length, get_or, sym}
use Rattle.std.proofs.Common.{ap, ◌∙◌, subst₂, arith}
use Rattle.epx_types.proofs.Common.{false≢true, get_or_read, All-get_or, Instance}
use Rattle.epx_components.specs.between.Partitions.{parts, component_of}
use Rattle.epx_ranking.specs.inner.SequenceKeys.{sequence_key_of, ComesBefore, ComesAfter}
use Rattle.epx_ranking.specs.inner.SequenceKeys.{IsNodeEarlyAt, IsNodeOutOfSequenceAt, key_for}
use Rattle.epx_ranking.proofs.SequenceKeyLemmas.{latest_in, IsNodeOvertakenAt-from_latest}
use Rattle.epx_ranking.proofs.SequenceKeyLemmas.{ComesBefore-from_overtaken, AreLatest-step}
use Rattle.epx_ranking.proofs.SequenceKeyLemmas.{AreNodesInOrder-step}
use Rattle.epx_ranking.proofs.check.check_positions.Goals as goal

pub returns-then-comes_before : goal.returns-then-comes_before
returns-then-comes_before c =
    let m = c.args.merged.now in
    let p = parts c.args.partition.now in
    let nodes = c.args.nodes.now in
    let n = c.loop-place.place in
    let latest = c.loop-place.latest.items in
    let old = c.loop-place.invariant in
    let k = get_or nodes n 0 in
    let node_in : k < length p.component =
    All-get_or (λ k. k < length p.component) nodes n 0 c.loop-place-test.true
    c.requires.nodes in
    let own : c.index-own.result.now ≡ component_of p k =
    get_or_read p.component k _ node_in c.index-own.ensures 0 in
    let own_in : component_of p k < length latest =
    omega (
      arith,
      All-get_or (λ c. c < p.count) p.component k 0 node_in c.requires.counted,
      old.latest.whole,
    ) in
    let last : c.index.result.now ≡ latest_in p latest k =
    get_or_read latest _ _ (omega (arith, own)) c.index.ensures None
    ∙ ap (λ c. get_or latest c None) own in
    let before = subst₂ ComesBefore c.of-key_of_node.ensures last
    (c.comes_before.ensures.0 c.if-comes_before.true) in (
      c.loop-place-test.true,
      inl (IsNodeOvertakenAt-from_latest m p nodes n latest old.latest
          c.entry_at.result.now c.entry_at.ensures before),
      (λ ahead. absurd
          (omega (arith, ahead, c.if-below-own.false, ap (λ x. get_or c.args.below.now x 0) own))),
      old.none,
    )

pub returns-then-comes_after : goal.returns-then-comes_after
returns-then-comes_after c =
    let m = c.args.merged.now in
    let p = parts c.args.partition.now in
    let nodes = c.args.nodes.now in
    let n = c.loop-place.place in
    let left_out = c.args.left_out.now in
    let k = get_or nodes n 0 in
    let node_in : k < length p.component =
    All-get_or (λ k. k < length p.component) nodes n 0 c.loop-place-test.true
    c.requires.nodes in
    let own : c.index-own.result.now ≡ component_of p k =
    get_or_read p.component k _ node_in c.index-own.ensures 0 in
    let after = subst₂ ComesAfter c.of-key_of_node.ensures
    (ap (λ c. get_or left_out c None) own) (c.comes_after.ensures.0 c.if-comes_after.true) in (
      c.loop-place-test.true,
      inr (c.entry_at.result.now, c.entry_at.ensures, after),
      (λ ahead. absurd
          (omega (arith, ahead, c.if-below-own.false, ap (λ x. get_or c.args.below.now x 0) own))),
      c.loop-place.invariant.none,
    )

pub loop-place-preserved : goal.loop-place-preserved
loop-place-preserved c =
    let m = c.args.merged.now in
    let p = parts c.args.partition.now in
    let nodes = c.args.nodes.now in
    let below = c.args.below.now in
    let n = c.loop-place.place in
    let latest = c.loop-place.latest.items in
    let old = c.loop-place.invariant in
    let e = c.entry_at.result.now in
    let k = get_or nodes n 0 in
    let node_in : k < length p.component =
    All-get_or (λ k. k < length p.component) nodes n 0 c.loop-place-test.true
    c.requires.nodes in
    let own : c.index-own.result.now ≡ component_of p k =
    get_or_read p.component k _ node_in c.index-own.ensures 0 in
    let own_in : component_of p k < length latest =
    omega (
      arith,
      All-get_or (λ c. c < p.count) p.component k 0 node_in c.requires.counted,
      old.latest.whole,
    ) in
    let last : c.index.result.now ≡ latest_in p latest k =
    get_or_read latest _ _ (omega (arith, own)) c.index.ensures None
    ∙ ap (λ c. get_or latest c None) own in
    let none : ¬ ComesBefore (sequence_key_of e) (latest_in p latest k) =
    λ h. false≢true (sym c.if-comes_before.false ∙ c.comes_before.ensures.1
    (subst₂ ComesBefore (sym c.of-key_of_node.ensures) (sym last) h)) in
    let left_out = c.args.left_out.now in
    let not_after : ¬ ComesAfter (sequence_key_of e) (key_for p left_out k) =
    λ h. false≢true (sym c.if-comes_after.false ∙ c.comes_after.ensures.1
    (subst₂ ComesAfter (sym c.of-key_of_node.ensures)
    (ap (λ c. get_or left_out c None) (sym own)) h)) in
    let same_instance : (f : Instance) → slice_get m k ≡ Some f → f ≡ e =
    λ f at. let same : Some f ≡ Some e = sym at ∙ c.entry_at.ensures in cc same in
    let not_wrong : ¬ IsNodeOutOfSequenceAt m p left_out nodes n =
    λ wrong. elim wrong [
      | inl passed ↦ none
          (ComesBefore-from_overtaken m p nodes n latest old.latest e c.entry_at.ensures passed)
      | inr gap ↦ not_after
          (subst (λ f. ComesAfter (sequence_key_of f) (key_for p left_out k))
          (same_instance gap.0 gap.1) gap.2)
    ] in
    let not_ahead : ¬ IsNodeEarlyAt p below nodes n =
    λ ahead. absurd
    (omega (arith, ahead, c.if-below-own.false, ap (λ c. get_or below c 0) own)) in
    record {
      latest = rw (own, c.of-key_of_node.ensures)
          (AreLatest-step m p nodes n latest old.latest e c.entry_at.ensures own_in none);
      none = AreNodesInOrder-step m p left_out below nodes n not_ahead not_wrong old.none;
    }
