use Rattle.std.proofs.Common.{◌≡◌, inl, inr, get_or, IsTrue, subst, arith}
use Rattle.epx_types.proofs.Common.{cases_lt}
use Rattle.epx_graph.proofs.Common.{edges_of}
use Rattle.epx_audit.specs.inner.DoubtfulKeys.{IsRelatedOrFree}
use Rattle.epx_audit.specs.inner.SourceBits.{has_bit}
use Rattle.epx_audit.proofs.BitLemmas.{has_bit-zero}
use Rattle.epx_audit.proofs.batch.SourceBatch.has_no_candidate.Goals as goal

pub loop-node-preserved : goal.loop-node-preserved
loop-node-preserved c g touches sources b j batch within below =
    elim (cases_lt j c.loop-node.node) [
      | inl past ↦ c.loop-node.invariant g touches sources b j batch within past
      | inr here ↦
          let same : c.loop-node.node ≡ j = omega arith in
          subst (IsRelatedOrFree (edges_of g) c.args.ready.now touches (get_or sources b 0)) same
          (c.candidates.ensures.rest g touches sources b batch within
          (λ h. has_bit-zero b (subst (λ w. IsTrue (has_bit b w)) c.if-candidates-ne0.false h)))
    ]

pub returns : goal.returns
returns c h g touches sources b j batch within below =
    c.loop-node.invariant g touches sources b j batch within
    (omega (arith, below, c.loop-node-test.false))
