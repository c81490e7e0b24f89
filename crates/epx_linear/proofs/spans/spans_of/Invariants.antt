use Rattle.std.proofs.Common.{◌≡◌, length, map, take}
use Rattle.epx_linear.specs.inner.Spans.{times_of_call, times_of_span}
use Rattle.epx_linear.proofs.CallRowLemmas.{AreNumbered}
use Rattle.epx_linear.proofs.spans.spans_of.Given as goal

abbrev pub invariant-loop-at : goal.invariant-loop-at
invariant-loop-at l = record {
  times : map times_of_span l.spans.items ≡ map times_of_call (take l.at l.history);
  places : AreNumbered (λ s. s.at) l.spans.items;
  len : length l.spans.items ≡ l.at;
}
