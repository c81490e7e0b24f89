use Rattle.std.proofs.Common.{◌≡◌, inl, inr, ◌+◌, ◌++◌, ◌∷◌, [], List, Bool, length}
use Rattle.std.proofs.Common.{Contains, refl, sym, subst, ap, ◌∙◌, arith}
use Rattle.epx_types.proofs.Common.{get_or_read, Contains-append_left, Contains-push}
use Rattle.epx_types.proofs.Common.{Contains-push_cases, Contains-permutation, IsPermutation-sym}
use Rattle.epx_types.proofs.Common.{with_items_is}
use Rattle.epx_graph.proofs.Common.{edges_of}
use Rattle.epx_audit.specs.declared.pair_marks.LeftPair.{LeftPair}
use Rattle.epx_audit.specs.inner.PairMarks.{pair_at, IsLeftPair, AreExactMarks, AreExactBut}
use Rattle.epx_audit.proofs.PairMarkLemmas.{AreExactBelow, AreExactBelow-push}
use Rattle.epx_audit.proofs.PairMarkLemmas.{AreExactBut-from_below}
use Rattle.epx_audit.proofs.pair_marks.searched_marks.Goals as goal
use Rattle.epx_audit.proofs.pair_marks.searched_marks.Goals.{then-not-found+in_ok-push-2}
use Rattle.epx_audit.proofs.pair_marks.searched_marks.Goals.{else-not-found}

pub loop-index-init : goal.loop-index-init
loop-index-init c =
    let none : length c.new-left.result.items ≡ 0 = ap length c.new-left.ensures.items in
    record {
      seen = c.in_ok-path_search.ensures ∙ c.len.ensures.len;
      below = record {
        len = ap length c.in_ok-marks.ensures.items;
        each_left = λ o h. absurd (omega (arith, none, h.1));
        exact = λ i l. absurd (omega arith);
      };
    }

pub reaches-requires-clause-later : goal.reaches-requires-clause-later
reaches-requires-clause-later c =
    (c.requires.pairs c.loop-index.index (0, 0) c.loop-index-test.true).1

pub reaches-requires-clause-earlier : goal.reaches-requires-clause-earlier
reaches-requires-clause-earlier c =
    let pair = c.requires.pairs c.loop-index.index (0, 0) c.loop-index-test.true in
    omega (arith, pair.0, pair.1)

pub index-requires : goal.index-requires
index-requires c =
    let pair = c.requires.pairs c.loop-index.index (0, 0) c.loop-index-test.true in
    omega (arith, pair.1, c.args.reach.now.nodes.ok.0)

pub index-requires-then-not-found : goal.index-requires-then-not-found
index-requires-then-not-found c =
    let pair = c.requires.pairs c.loop-index.index (0, 0) c.loop-index-test.true in
    omega (arith, pair.0, pair.1, c.args.reach.now.nodes.ok.0)

pub loop-index-preserved : goal.loop-index-preserved
loop-index-preserved c =
    let edges = edges_of c.args.graph.now in
    let nodes = c.args.reach.now.nodes.items in
    let pairs = c.args.pairs.now in
    let n = c.loop-index.index in
    let pair = c.requires.pairs n (0, 0) c.loop-index-test.true in
    let marks = c.loop-index.marks.items in
    let left = c.loop-index.left.items in
    let found = c.in_ok-found.found in
    let old = c.loop-index.invariant in
    let new : c.push.new.self.items ≡ marks ++ found ∷ [] = c.in_ok-push.ensures.items in
    record {
      seen = c.in_ok-found.ensures.seen ∙ old.seen;
      below = subst (λ marks. AreExactBelow edges nodes pairs c.if-not-found.left.items marks
          (n + 1)) (sym new) (elim c.if-not-found.branch [
            | then-not-found+in_ok-push-2 w ↦
                let o : LeftPair = record {
                  from = w.index.result.now;
                  to = w.index-then-not-found.result.now;
                  index = n;
                } in
                let own : IsLeftPair nodes pairs o = record {
                  within = c.loop-index-test.true;
                  from = get_or_read nodes _ _ pair.1 w.index.ensures 0;
                  to = get_or_read nodes _ _ (omega (arith, pair.0, pair.1))
                      w.index-then-not-found.ensures 0;
                } in
                let more : c.if-not-found.left.items ≡ left ++ o ∷ [] =
                ap (λ v. v.items) w.left-is ∙ w.in_ok-push-2.ensures.items in
                subst (λ left. AreExactBelow edges nodes pairs left (marks ++ found ∷ []) (n + 1))
                (sym more) (AreExactBelow-push edges nodes pairs left (left ++ o ∷ []) marks found n
                old.below (λ p h. Contains-append_left left (o ∷ []) p h)
                (λ p h. elim (Contains-push_cases left o p h) [
                  | inl was ↦ inl was
                  | inr is ↦ inr (subst (IsLeftPair nodes pairs) is own)
                ]) (inr (o, Contains-push left o, refl)))
            | else-not-found w ↦
                let same : c.if-not-found.left.items ≡ left = ap (λ v. v.items) w.left-is in
                subst (λ left. AreExactBelow edges nodes pairs left (marks ++ found ∷ []) (n + 1))
                (sym same) (AreExactBelow-push edges nodes pairs left left marks found n old.below
                (λ p h. h) (λ p h. inl h)
                (inl (c.in_ok-found.ensures.reaches, (λ there. w.if-not-found.false))))
          ]);
    }

pub mark_left-requires : goal.mark_left-requires
mark_left-requires c = record {
  left = λ o h.
      let below = c.loop-index.invariant.below in
      let pairs = c.args.pairs.now in
      let back = Contains-permutation _ _ o (IsPermutation-sym _ _ c.sort.ensures.permutation)
      (subst (λ (os : List LeftPair). Contains os o) c.deref.ensures.value h) in
      let is = below.each_left o back in
      let pair = c.requires.pairs o.index (0, 0) is.within in
      let from = c.requires.reach.in_range (pair_at pairs o.index).0 0 pair.1 in
      let to = c.requires.reach.in_range (pair_at pairs o.index).1 0
      (omega (arith, pair.0, pair.1)) in (
        omega (arith, from, is.from),
        omega (arith, to, is.to),
        omega (
          arith,
          is.within,
          ap length c.deref_mut.ensures.value,
          below.len,
          c.loop-index-test.false,
        ),
      );
}

pub returns : goal.returns
returns c =
    let edges = edges_of c.args.graph.now in
    let nodes = c.args.reach.now.nodes.items in
    let pairs = c.args.pairs.now in
    let new = c.mark_left.new.marks in
    let vec = c.loop-index.marks in
    let end : c.loop-index.index ≡ length pairs =
    omega (arith, c.loop-index-test.false, c.loop-index.auto.index-end) in
    let written = with_items_is vec new
    (c.mark_left.auto.marks ∙ ap length c.deref_mut.ensures.value ∙ sym vec.ok.0) in
    let but : AreExactBut edges nodes pairs c.sort.new.self.items vec.items =
    AreExactBut-from_below edges nodes pairs c.loop-index.left.items c.sort.new.self.items vec.items
    c.loop-index.index end c.loop-index.invariant.below
    (λ o h. Contains-permutation _ _ o c.sort.ensures.permutation h)
    (λ o h. Contains-permutation _ _ o (IsPermutation-sym _ _ c.sort.ensures.permutation) h) in
    let at = subst (λ (os : List LeftPair). AreExactBut edges nodes pairs os vec.items)
    (sym c.deref.ensures.value) but in
    let read = subst (λ (ms : List Bool). AreExactBut edges nodes pairs c.deref.result.now ms)
    (sym c.deref_mut.ensures.value) at in
    subst (AreExactMarks edges nodes pairs) (sym written)
    (c.in_ok-mark_left.ensures nodes pairs read)
