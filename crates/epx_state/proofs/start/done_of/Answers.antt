use Rattle.std.proofs.lemmas.Result.{IfOk-weaker}
use Rattle.epx_state.proofs.StartLemmas.{Contains-added_to_none}
use Rattle.epx_state.proofs.start.done_of.Goals as goal

pub returns : goal.returns
returns c = IfOk-weaker c.with.result _ _
    (λ done each. Contains-added_to_none c.new-none.result done c.args.ids.now c.new-none.ensures
    each)
    c.with.ensures
