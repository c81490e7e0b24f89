use Rattle.std.proofs.Common.{◌≡◌, ◌⊎◌, ℕ, ◌<◌, length, get_or, IsTrue, IsFalse}
use Rattle.epx_audit.specs.inner.SourceBits.{HasBitsOf}
use Rattle.epx_audit.proofs.SharingMarkLemmas.{doubtful_at}
use Rattle.epx_audit.proofs.sharing_marks.key_marks.Given as goal

abbrev pub invariant-loop-touch : goal.invariant-loop-touch
invariant-loop-touch l = record {
  len : length l.words.items ≡ l.doubtful.keys;
  marks : (i : ℕ) → i < l.touch-index → IsFalse l.only_writes
      ⊎ IsTrue (doubtful_at l.doubtful.touches.items i).writes
      → HasBitsOf (get_or l.own (doubtful_at l.doubtful.touches.items i).node 0)
      (get_or l.words.items (doubtful_at l.doubtful.touches.items i).key 0);
}
