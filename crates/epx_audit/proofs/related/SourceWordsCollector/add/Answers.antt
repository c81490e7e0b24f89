use Rattle.epx_audit.proofs.BitLemmas.{has_bit-or}
use Rattle.epx_audit.proofs.related.SourceWordsCollector.add.Goals as goal

pub returns : goal.returns
returns c = λ b. has_bit-or b c.args.word c.args.below
