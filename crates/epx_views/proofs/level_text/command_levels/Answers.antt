use Rattle.std.proofs.Common.{List, map, ap, ◌∙◌, subst, IfOk}
use Rattle.epx_types.proofs.Common.{AreLevels}
use Rattle.epx_types.specs.declared.op.Op.{Op}
use Rattle.epx_views.proofs.level_text.command_levels.Goals as goal

pub returns : goal.returns
returns c =
    let same = ap (map (λ c. c.ops.now)) c.deref.ensures.value ∙ c.in_ok-commands.ensures.ops in
    subst (λ (ops : List (List Op)). IfOk c.levels.result (AreLevels ops)) same c.levels.ensures
