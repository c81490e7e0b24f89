use Rattle.std.proofs.Common.{◌≡◌, fold, zip}
use Rattle.std.specs.BTreeSet.{insert_key}
use Rattle.epx_types.proofs.Common.{id_cmp}
use Rattle.epx_lines.specs.DependencyList.{rising_ids}
use Rattle.epx_linear.specs.inner.MarkedCalls.{unmarked_ids}
use Rattle.epx_linear.proofs.lost_calls.sort_lost.Given as goal

abbrev pub invariant-loop-call : goal.invariant-loop-call
invariant-loop-call l =
    fold (insert_key id_cmp) l.lost.keys
    (unmarked_ids (zip l.call-iterator.a.rest.now l.call-iterator.b.rest.now))
    ≡ rising_ids (unmarked_ids (zip l.history l.executed))
