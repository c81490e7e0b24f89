use Rattle.std.proofs.Common.{◌≡◌, ◌≤◌, take}
use Rattle.epx_txn.specs.between.ReplyLengths.{reply_length}
use Rattle.epx_txn.proofs.evaluation.reply_len.Given as goal

abbrev pub invariant-loop-op : goal.invariant-loop-op
invariant-loop-op l = record {
  counted : l.values ≡ reply_length (take l.op-index l.ops);
  few : l.values ≤ l.op-index;
}
