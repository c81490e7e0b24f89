use Rattle.std.proofs.Common.{◌≡◌, ℕ, ◌<◌, length, get_or}
use Rattle.epx_audit.specs.inner.SourceBits.{HasBitsOf}
use Rattle.epx_audit.proofs.SharingMarkLemmas.{doubtful_at, word_of}
use Rattle.epx_audit.proofs.sharing_marks.sharing_marks.Given as goal

abbrev pub invariant-loop-touch : goal.invariant-loop-touch
invariant-loop-touch l = record {
  len : length l.words.items ≡ length l.own;
  marks : (i : ℕ) → i < l.touch-index
      → HasBitsOf (word_of l.touching.items l.writing.items
      (doubtful_at l.doubtful.touches.items i))
      (get_or l.words.items (doubtful_at l.doubtful.touches.items i).node 0);
}
