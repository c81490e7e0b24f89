use Rattle.std.proofs.Common.{ap, length, arith}
use Rattle.epx_rows.proofs.RowLemmas.{length-rows_from}
use Rattle.epx_rows.proofs.rows.Rows.len.Goals as goal

pub returns : goal.returns
returns c = omega (
  arith,
  c.len.ensures,
  c.self.inside.ends.ok.0,
  length-rows_from 0 c.self.inside.ends.items c.self.inside.numbers.items,
  ap length c.self.view_is,
)
