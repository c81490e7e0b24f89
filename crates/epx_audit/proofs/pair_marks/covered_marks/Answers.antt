use Rattle.std.proofs.Common.{◌≡◌, inl, inr, ◌+◌, ◌++◌, ◌∷◌, [], length, sym, subst, ap, ◌∙◌}
use Rattle.std.proofs.Common.{arith}
use Rattle.epx_types.proofs.Common.{cases_lt, length_push}
use Rattle.epx_graph.proofs.Common.{edges_of}
use Rattle.epx_audit.specs.inner.PairMarks.{IsExact}
use Rattle.epx_audit.proofs.PairMarkLemmas.{IsExact-push, IsExact-last}
use Rattle.epx_audit.proofs.pair_marks.covered_marks.Goals as goal

pub reaches-requires : goal.reaches-requires
reaches-requires c =
    let within = c.requires.3 c.loop-index.index (0, 0) c.loop-index-test.true in
    (c.requires.0, c.requires.1, c.requires.2, within.1, omega (arith, within.0, within.1))

pub loop-index-preserved : goal.loop-index-preserved
loop-index-preserved c =
    let n = c.loop-index.index in
    let pairs = c.args.pairs.now in
    let marks = c.loop-index.marks.items in
    let b = c.reaches.result in
    let old = c.loop-index.invariant in
    let new : c.push.new.self.items ≡ marks ++ b ∷ [] = c.in_ok-push.ensures.items in
    record {
      len = ap length new ∙ length_push marks b ∙ ap (λ n. n + 1) old.len;
      exact = λ g nodes is first i below.
          subst (λ marks. IsExact (edges_of g) nodes pairs marks i) (sym new)
          (elim (cases_lt i n) [
            | inl past ↦ IsExact-push (edges_of g) nodes pairs marks b i
                (omega (arith, past, old.len)) (old.exact g nodes is first i past)
            | inr here ↦
                let last : n ≡ i = omega arith in
                let within = first n (0, 0) c.loop-index-test.true in
                subst (λ i. IsExact (edges_of g) nodes pairs (marks ++ b ∷ []) i) last
                (IsExact-last (edges_of g) nodes pairs marks b n old.len
                (c.reaches.ensures g nodes is within.1 (omega (arith, within.0, within.1))))
          ]);
    }

pub returns : goal.returns
returns c g nodes is first =
    let end : c.loop-index.index ≡ length c.args.pairs.now =
    omega (arith, c.loop-index-test.false, c.loop-index.auto.index-end) in
    record {
      each_pair = c.loop-index.invariant.len ∙ end;
      exact = λ i l. c.loop-index.invariant.exact g nodes is first i (omega (arith, l, end));
    }
