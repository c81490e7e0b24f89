use Rattle.std.proofs.Common.{refl}
use Rattle.epx_words.proofs.read.follow_of.Goals as goal

pub returns : goal.returns
returns c = (
  record {
    name = refl;
    workers = c.plan_of-plan.ensures.workers;
    cut = c.plan_of-plan.ensures.cut;
    paths = c.in_ok-paths.ensures;
    each = c.has_flag.ensures;
    explain = c.has_flag-2.ensures;
    quiet = c.has_flag-3.ensures;
    state = c.in_ok-value_of.ensures;
    save = c.in_ok-value_of-2.ensures;
  },
  c.requires.4 refl,
)
