use Rattle.std.proofs.Common.{◌<◌, length, length-set, get_or, ◌∙◌, arith}
use Rattle.epx_types.proofs.Common.{All-get_or}
use Rattle.epx_audit.proofs.TargetBitLemmas.{AreAdded-next}
use Rattle.epx_audit.proofs.related.mark_targets.Goals as goal

pub loop-target-preserved : goal.loop-target-preserved
loop-target-preserved c =
    let component = c.args.component.now in
    let targets = c.args.targets.now in
    let words = c.loop-target.words in
    let n = c.loop-target.target-index in
    let target_in = All-get_or (λ j. j < length component) targets n 0 c.loop-target-test.true
    c.requires.targets in
    let within : get_or component (get_or targets n 0) 0 < length words =
    omega (
      arith,
      All-get_or (λ c'. c' < length c.args.words.now) component
          (get_or targets n 0) 0 target_in c.requires.counted,
      c.loop-target.invariant.len,
    ) in
    record {
      len = length-set words _ _ ∙ c.loop-target.invariant.len;
      marks = AreAdded-next component targets c.args.words.now words c.args.word n within
          c.loop-target.invariant.marks;
    }
