use Rattle.std.proofs.Common.{length, ap, arith}
use Rattle.epx_audit.proofs.batch.SourceBatch.of.Goals as goal

pub sharing_marks-requires-clause-doubtful : goal.sharing_marks-requires-clause-doubtful
sharing_marks-requires-clause-doubtful c t h =
    let in_range = c.requires.doubtful t h in (
      omega (arith, in_range.0, c.in_ok-own.ensures.len, ap length c.deref.ensures.value),
      in_range.1,
    )
