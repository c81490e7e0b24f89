use Rattle.std.proofs.Common.{◌≡◌, ◌++◌, flat_map, zip}
use Rattle.epx_verify.specs.Differences.{reply_difference}
use Rattle.epx_verify.proofs.differences.append_reply_differences.Given as goal

abbrev pub invariant-loop-id : goal.invariant-loop-id
invariant-loop-id l =
    l.text.items
    ++ flat_map reply_difference (zip l.id-iterator.a.rest.now l.id-iterator.b.rest.now)
    ≡ l.fn.text.items ++ flat_map reply_difference (zip l.fn.said l.fn.right)
