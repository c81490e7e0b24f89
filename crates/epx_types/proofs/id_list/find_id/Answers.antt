use Rattle.epx_types.proofs.lists.IdListLemmas.{Contains-not_found}
use Rattle.epx_types.proofs.id_list.find_id.Goals as goal

pub returns-in-Err : goal.returns-in-Err
returns-in-Err c = Contains-not_found c.args.ids.now c.args.id c.in-Err.field-0 c.requires
    c.in-Err.ensures.position
