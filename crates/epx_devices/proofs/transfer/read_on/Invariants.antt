use Rattle.std.proofs.Common.{◌≡◌, ◌≤◌, ◌+◌, ◌-◌, ◌++◌, List, ℕ, false, length}
use Rattle.epx_devices.specs.between.LogParts.{IsReadUpTo}
use Rattle.epx_devices.proofs.transfer.read_on.Given as goal

abbrev pub invariant-loop-bytes : goal.invariant-loop-bytes
invariant-loop-bytes g l =
    let D = g.R.Source.model in
    (D.has_failed l.source ≡ false)
    × (l.before + length l.bytes.items ≤ 67108865)
    × ((first : g.row.R.Denot) (head : List ℕ) → length head ≡ l.before
    → IsReadUpTo D first l.fn.source
    (head ++ l.fn.bytes.items)
    → IsReadUpTo D first l.source
    (head ++ l.bytes.items))

abbrev pub decreases-loop-bytes : goal.decreases-loop-bytes
decreases-loop-bytes g l = 67108865 - length l.bytes.items
