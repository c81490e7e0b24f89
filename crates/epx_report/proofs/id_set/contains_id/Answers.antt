use Rattle.std.proofs.Common.{◌∙◌}
use Rattle.epx_report.proofs.IdSetLemmas.{is_some-among}
use Rattle.epx_report.proofs.id_set.contains_id.Goals as goal

pub returns : goal.returns
returns c = c.is_some.ensures
    ∙ is_some-among c.args.rising.now c.args.id c.find_id.result c.find_id.ensures
