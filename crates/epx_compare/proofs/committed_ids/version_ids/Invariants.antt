use Rattle.std.proofs.Common.{◌≡◌, map, take}
use Rattle.epx_compare.proofs.committed_ids.version_ids.Given as goal

abbrev pub invariant-loop-number : goal.invariant-loop-number
invariant-loop-number l = l.ids.items ≡ map (λ e. e.id) (take l.number l.versions.keys)
