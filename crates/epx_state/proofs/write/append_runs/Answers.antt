use Rattle.std.proofs.Common.{arith, subst, take_all}
use Rattle.epx_types.proofs.Common.{All, common_steps}
use Rattle.std.proofs.lemmas.List.Elements.{All-more}
use Rattle.epx_state.specs.inner.WrittenLines.{IsReadRun}
use Rattle.epx_state.proofs.write.append_runs.Goals as goal

pub loop-run-preserved : goal.loop-run-preserved
loop-run-preserved c = record {
  text = grind (
    arith,
    common_steps,
    c.loop-run.invariant.text,
    c.in_ok-append_run.ensures.text,
  );
  read = All-more IsReadRun c.args.runs.now c.loop-run.run-index _ (omega arith)
      c.loop-run.invariant.read c.in_ok-append_run.ensures.read;
}

pub returns-clause-read : goal.returns-clause-read
returns-clause-read c = subst (All IsReadRun)
    (take_all c.loop-run.run-index c.args.runs.now (omega arith)) c.loop-run.invariant.read
