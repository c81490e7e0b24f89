use Rattle.std.proofs.Common.{◌≡◌, ◌++◌, flat_map, zip}
use Rattle.epx_linear.specs.ClientCalls.{calls_at, calls_in}
use Rattle.epx_linear.specs.LinearTexts.{findings_at}
use Rattle.epx_linear.proofs.answer.append_findings.Given as goal

abbrev pub invariant-loop-id : goal.invariant-loop-id
invariant-loop-id l = record {
  text : l.text.items ++ flat_map (findings_at l.history)
      (zip (zip l.id-iterator.a.a.a.rest.now l.id-iterator.a.a.b.rest.now)
      l.id-iterator.a.b.rest.now)
      ≡ l.fn.text.items ++ flat_map (findings_at l.history)
      (zip (zip l.ids l.replies) l.late);
  places : calls_at l.history l.id-iterator.b.rest.now
      ≡ calls_in l.history l.id-iterator.a.a.a.rest.now;
}
