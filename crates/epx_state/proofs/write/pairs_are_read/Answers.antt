use Rattle.std.proofs.Common.{Bor, ℤ, subst, arith, take_all}
use Rattle.epx_types.proofs.Common.{All}
use Rattle.epx_types.specs.declared.key.Key.{Key}
use Rattle.std.proofs.lemmas.List.Elements.{All-more}
use Rattle.epx_state.specs.inner.WrittenLines.{IsReadPair}
use Rattle.epx_state.proofs.write.pairs_are_read.Goals as goal

pub loop-key-preserved : goal.loop-key-preserved
loop-key-preserved c =
    All-more (λ (p : Bor Key × ℤ). IsReadPair (p.0.now, p.1)) c.args.pairs.now c.loop-key.key-index
    c.loop-key-item.result (omega arith) c.loop-key.invariant
    (subst (λ (p : Bor Key × ℤ). IsReadPair (p.0.now, p.1)) c.loop-key-item.is
    c.pair_is_read.ensures)

pub returns : goal.returns
returns c =
    subst (All (λ (p : Bor Key × ℤ). IsReadPair (p.0.now, p.1)))
    (take_all c.loop-key.key-index c.args.pairs.now (omega arith)) c.loop-key.invariant
