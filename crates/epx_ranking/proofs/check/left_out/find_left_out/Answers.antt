use Rattle.std.proofs.Common.{◌≡◌, ◌<◌, None, length, get_or, sym, ap, ◌∙◌, subst₂, arith, subst}
use Rattle.std.proofs.Common.{IsTrue}
use Rattle.epx_types.proofs.Common.{false≢true, get_or_read, All-get_or}
use Rattle.epx_components.specs.between.Partitions.{parts, component_of}
use Rattle.epx_components.specs.between.ReadyMarks.{is_marked}
use Rattle.epx_ranking.proofs.LeftOutLemmas.{AreLeftOut-kept, AreLeftOut-step}
use Rattle.epx_ranking.specs.inner.SequenceKeys.{AreLeftOut, ComesAfter, key_for, sequence_key_of}
use Rattle.epx_ranking.proofs.check.left_out.find_left_out.Goals.{then-not-comes_after}
use Rattle.epx_ranking.proofs.check.left_out.find_left_out.Goals.{else-not-comes_after}
use Rattle.epx_ranking.proofs.check.left_out.find_left_out.Goals as goal

pub loop-node-preserved : goal.loop-node-preserved
loop-node-preserved c =
    let m = c.args.merged.now in
    let p = parts c.args.partition.now in
    let marks = c.args.marks.now in
    let n = c.loop-node.node in
    let left_out = c.loop-node.left_out.items in
    let old = c.loop-node.invariant in
    let e = c.entry_at.result.now in
    let node_in : n < length p.component =
    omega (arith, c.loop-node-test.true, c.requires.committed, c.len-node-end.ensures.len) in
    let own : c.index-own.result.now ≡ component_of p n =
    get_or_read p.component n _ node_in c.index-own.ensures 0 in
    let own_in : component_of p n < length left_out =
    omega (
      arith,
      All-get_or (λ c. c < p.count) p.component n 0 node_in c.requires.counted,
      old.whole,
    ) in
    let first : c.index.result.now ≡ key_for p left_out n =
    get_or_read left_out _ _ (omega (arith, own, own_in)) c.index.ensures None
    ∙ ap (λ c. get_or left_out c None) own in
    let unmarked : ¬ IsTrue (is_marked marks n) =
    λ h. false≢true (sym c.if-marks-node.false ∙ h) in
    elim c.if-not-comes_after.branch [
      | then-not-comes_after w ↦
          let none : ¬ ComesAfter (sequence_key_of e) (key_for p left_out n) =
          λ h. false≢true (sym w.if-not-comes_after.true ∙ c.comes_after.ensures.1
          (subst₂ ComesAfter (sym c.of-key_of_node.ensures) (sym first) h)) in
          rw (w.left_out-is, own, c.of-key_of_node.ensures)
          (AreLeftOut-step m p marks n left_out old e c.entry_at.ensures own_in unmarked none)
      | else-not-comes_after w ↦
          let after = subst₂ ComesAfter c.of-key_of_node.ensures first
          (c.comes_after.ensures.0 w.if-not-comes_after.false) in
          rw w.left_out-is
          (AreLeftOut-kept m p marks n left_out old e c.entry_at.ensures after)
    ]

pub returns : goal.returns
returns c =
    let m = c.args.merged.now in
    let p = parts c.args.partition.now in
    subst (λ n. AreLeftOut m p c.args.marks.now n c.loop-node.left_out.items)
    (omega (arith, c.loop-node-test.false, c.len-node-end.ensures.len)) c.loop-node.invariant
