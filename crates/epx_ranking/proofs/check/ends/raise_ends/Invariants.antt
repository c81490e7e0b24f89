use Rattle.std.proofs.Common.{◌≡◌, ℕ, ◌<◌, ◌≤◌, length, get_or, Some, None}
use Rattle.epx_ranking.specs.declared.check.sequence_key.SequenceKey.{SequenceKey}
use Rattle.epx_ranking.proofs.check.ends.raise_ends.Given as goal

abbrev pub invariant-loop-component : goal.invariant-loop-component
invariant-loop-component l = record {
  whole : length l.ends ≡ length l.fn.ends;
  ahead : (c : ℕ) → l.component ≤ c → get_or l.ends c 0 ≡ get_or l.fn.ends c 0;
  complete : (c : ℕ) → c < l.component → get_or l.left_out c None ≡ None
      → get_or l.ends c 0 ≡ get_or l.fn.ends c 0;
  incomplete : (c : ℕ) (t : SequenceKey) → c < l.component → get_or l.left_out c None ≡ Some t
      → get_or l.ends c 0 ≡ l.len;
}
