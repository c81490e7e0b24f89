use Rattle.std.proofs.Common.{◌≡◌, ◌↔◌, ℕ, ◌<◌, length, get_or, IsTrue}
use Rattle.epx_audit.specs.inner.SourceBits.{has_bit}
use Rattle.epx_audit.proofs.source_marks.source_marks.Given as goal

abbrev pub invariant-loop-bit : goal.invariant-loop-bit
invariant-loop-bit l = record {
  len : length l.words.items ≡ l.len;
  marks : (b s : ℕ) → IsTrue (has_bit b (get_or l.words.items s 0))
      ↔ ((b < l.bit) × (get_or l.slots b 0 ≡ s));
}
