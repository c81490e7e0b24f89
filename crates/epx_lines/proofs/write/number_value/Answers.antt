use Rattle.std.proofs.Common.{rules}
use Rattle.epx_lines.proofs.WrittenPartLemmas.{IsWritableValue-from_range}
use Rattle.epx_lines.proofs.write.number_value.Goals as goal

pub returns-clause-fits : goal.returns-clause-fits
returns-clause-fits c = IsWritableValue-from_range _ (search rules)
