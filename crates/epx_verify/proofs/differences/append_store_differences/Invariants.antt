use Rattle.std.proofs.Common.{◌≡◌, ◌++◌, map, flat_map, drop}
use Rattle.epx_verify.specs.Differences.{value_difference, store_differences}
use Rattle.epx_verify.proofs.differences.append_store_differences.Given as goal

abbrev pub invariant-loop-key : goal.invariant-loop-key
invariant-loop-key l =
    l.text.items ++ flat_map (value_difference l.said l.right)
    (map (λ k. k.now) (drop l.key-index l.key-items))
    ≡ l.fn.text.items ++ store_differences l.fn.said l.fn.right
