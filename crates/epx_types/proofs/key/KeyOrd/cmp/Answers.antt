use Rattle.std.proofs.Common.{◌∙◌}
use Rattle.epx_types.proofs.keys.KeyHeadLemmas.{slice_cmp-by_heads}
use Rattle.epx_types.proofs.key.KeyOrd.cmp.Goals as goal

pub returns-else-head-other_head : goal.returns-else-head-other_head
returns-else-head-other_head c =
    c.cmp-else-head-other_head.ensures
    ∙ slice_cmp-by_heads c.args.self.now c.args.other.now c.head-head.result
    c.head-other_head.result c.head-head.ensures.bytes c.head-other_head.ensures.bytes
    c.head-head.ensures.head c.head-other_head.ensures.head c.if-head-other_head.false
