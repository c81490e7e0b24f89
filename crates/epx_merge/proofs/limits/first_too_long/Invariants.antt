use Rattle.std.proofs.Common.{◌≡◌, ℕ, ◌<◌, ◌≤◌, List, length, slice_get, Some}
use Rattle.epx_types.proofs.Common.{max_log_bytes}
use Rattle.epx_merge.specs.LogLines.{bytes_of}
use Rattle.epx_merge.proofs.limits.first_too_long.Given as goal

-- no log so far is too long
abbrev pub invariant-loop-number : goal.invariant-loop-number
invariant-loop-number l = (k : ℕ) → k < l.number → (bytes : List ℕ)
    → slice_get (bytes_of l.logs) k ≡ Some bytes → length bytes ≤ max_log_bytes
