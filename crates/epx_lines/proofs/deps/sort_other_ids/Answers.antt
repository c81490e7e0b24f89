use Rattle.std.proofs.Common.{Contains, sym, subst, rules}
use Rattle.epx_types.proofs.Common.{IsRising, items_of}
use Rattle.epx_lines.proofs.OtherIdLemmas.{rising_others-same}
use Rattle.epx_lines.proofs.deps.sort_other_ids.Goals as goal

pub returns-then-not-contains : goal.returns-then-not-contains
returns-then-not-contains c =
    let rising = subst IsRising c.as_slice-ids.ensures
    (c.is_rising.ensures.0 c.if-is_rising.true) in
    let apart : ¬ Contains (items_of c.args.named) c.args.id = search rules in
    sym (rising_others-same c.args.id (items_of c.args.named) rising apart)
