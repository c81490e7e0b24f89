use Rattle.epx_laws.proofs.TimeLemmas.{Before-lower_seq}
use Rattle.epx_laws.proofs.time.lower_sequence_comes_first.Goals as goal

pub returns : goal.returns
returns c = Before-lower_seq
