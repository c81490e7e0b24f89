use Rattle.std.proofs.Common.{arith}
use Rattle.epx_types.proofs.Common.{apply_writes-writes_of}
use Rattle.epx_txn.proofs.evaluation.apply_with_room.Goals as goal

pub returns-clause-after : goal.returns-clause-after
returns-clause-after c = grind (arith, apply_writes-writes_of c.args.ops.now c.args.store.now)
