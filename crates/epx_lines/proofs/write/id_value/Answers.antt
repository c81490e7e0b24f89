use Rattle.std.proofs.Common.{arith}
use Rattle.epx_lines.proofs.WrittenPartLemmas.{IsWritableId-within}
use Rattle.epx_lines.proofs.write.id_value.Goals as goal

pub returns-in-Ok-json-4-clause-fits : goal.returns-in-Ok-json-4-clause-fits
returns-in-Ok-json-4-clause-fits c = IsWritableId-within _ _ (omega arith) (omega arith)
