use Rattle.std.proofs.Common.{◌≡◌, false, ap, map}
use Rattle.epx_types.proofs.Common.{string_bytes, take_all, All-push}
use Rattle.epx_program.specs.SourcesAt.{model_at}
use Rattle.epx_program.proofs.SourceListLemmas.{sources-push}
use Rattle.epx_program.proofs.inputs.sources_at.Goals as goal

pub loop-path-preserved : goal.loop-path-preserved
loop-path-preserved g c =
    let D = model_at g.O.Opener.model g.O.Opened.Source.model g.I.Source.model in
    let before = c.loop-path.invariant in
    let said = c.source_at-source.ensures in
    let kept = c.new.ensures in
    rw c.in_ok-push.ensures.items record {
      at = sources-push _ string_bytes _ _ _ _ _ _ _ _ c.loop-path-test.true c.path-item.is
          before.at (rw (kept, ← c.as_str.ensures.value) said.at);
      failed = All-push (λ s. D.has_failed s ≡ false) _ _ before.failed (rw kept said.failed);
      left = said.left;
    }

pub returns : goal.returns
returns g c =
    let done = c.loop-path.invariant in
    let all = ap (map string_bytes) (take_all c.loop-path.path-index c.args.paths.now
    c.loop-path-test.false) in record {
      at = (c.loop-path.input, rw (← all) done.at);
      failed = done.failed;
    }
