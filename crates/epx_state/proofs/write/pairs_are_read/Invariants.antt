use Rattle.std.proofs.Common.{take}
use Rattle.epx_types.proofs.Common.{All}
use Rattle.epx_state.specs.inner.WrittenLines.{IsReadPair}
use Rattle.epx_state.proofs.write.pairs_are_read.Given as goal

abbrev pub invariant-loop-key : goal.invariant-loop-key
invariant-loop-key l = All (λ p. IsReadPair (p.0.now, p.1)) (take l.key-index l.pairs)
