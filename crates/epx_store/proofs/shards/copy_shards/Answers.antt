use Rattle.std.proofs.Common.{arith, rules}
use Rattle.std.proofs.lemmas.List.{same_lists}
use Rattle.epx_store.proofs.shards.copy_shards.Goals as goal

pub returns : goal.returns
returns c = same_lists c.loop-number.copy c.args.shards.now (search rules)
    (λ k d within. c.loop-number.invariant.1 k d (omega arith))
