use Rattle.std.proofs.Common.{◌≡◌, ℕ, ◌<◌, ◌≤◌, length, get_or, take, vec_len}
use Rattle.epx_components.proofs.merge_groups.merge_groups.Given as goal

abbrev pub invariant-loop-start : goal.invariant-loop-start
invariant-loop-start l = record {
  kept : l.starts.items ≡ take (vec_len l.starts) l.fn.starts.items;
  within : vec_len l.starts ≤ length l.fn.starts.items;
  above : (i : ℕ) → vec_len l.starts ≤ i → i < length l.fn.starts.items
      → l.position < get_or l.fn.starts.items i 0;
}

abbrev pub decreases-loop-start : goal.decreases-loop-start
decreases-loop-start l = vec_len l.starts
