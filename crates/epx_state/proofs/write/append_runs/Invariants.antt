use Rattle.std.proofs.Common.{◌≡◌, ◌++◌, flat_map, take, drop}
use Rattle.epx_types.proofs.Common.{All}
use Rattle.epx_state.specs.StateForms.{run_line}
use Rattle.epx_state.specs.inner.WrittenLines.{IsReadRun}
use Rattle.epx_state.proofs.write.append_runs.Given as goal

abbrev pub invariant-loop-run : goal.invariant-loop-run
invariant-loop-run l = record {
  text : l.text.items ++ flat_map run_line (drop l.run-index l.runs)
      ≡ l.fn.text.items ++ flat_map run_line l.runs;
  read : All IsReadRun (take l.run-index l.runs);
}
