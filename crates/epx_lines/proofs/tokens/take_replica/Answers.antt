use Rattle.std.proofs.Common.{◌≡◌, arith}
use Rattle.epx_lines.proofs.TokenValueLemmas.{ParsesTo-replica}
use Rattle.epx_lines.proofs.tokens.take_replica.Goals as goal

pub returns : goal.returns
returns c =
    let n = c.in_ok-take_number.field-0 in
    let same : n ≡ c.in_ok-ok.field-0 = grind arith in
    rw (← same) (ParsesTo-replica n _ _ c.in_ok-take_number.ensures (omega arith))
