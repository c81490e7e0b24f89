use Rattle.std.proofs.Common.{IsUtf8, rules, subst}
use Rattle.epx_state.proofs.LineReadingLemmas.{IsReadPair-fits}
use Rattle.epx_state.proofs.write.pair_is_read.Goals as goal

pub returns : goal.returns
returns c = record {
  read = (IsReadPair-fits c.args.key.now c.args.value.now c.text-key.ensures.fits
      (subst IsUtf8 c.text-key.ensures.text c.text-key.utf8) (search rules)).read;
}
