use Rattle.std.proofs.Common.{◌≡◌, ◌↔◌, ◌⊎◌, ℕ, ◌<◌, length, get_or, IsTrue}
use Rattle.epx_audit.specs.inner.SourceBits.{has_bit}
use Rattle.epx_audit.proofs.related.mark_targets.Given as goal

abbrev pub invariant-loop-target : goal.invariant-loop-target
invariant-loop-target l = record {
  len : length l.words ≡ length l.initial.words;
  marks : (b c : ℕ) → IsTrue (has_bit b (get_or l.words c 0))
      ↔ (IsTrue (has_bit b (get_or l.initial.words c 0))
      ⊎ (IsTrue (has_bit b l.word) × (i : ℕ) × (i < l.target-index)
      × (get_or l.component (get_or l.targets i 0) 0 ≡ c)));
}
