use Rattle.epx_neighbours.proofs.KeyNumberLemmas.{number_of-found, number_of-missing}
use Rattle.epx_neighbours.proofs.key_numbers.key_number.Goals as goal

pub returns-in-Ok : goal.returns-in-Ok
returns-in-Ok c = number_of-found c.args.keys.now c.requires c.args.key.now c.in-Ok.number
    c.in-Ok.ensures.bound c.in-Ok.ensures.ok

pub returns-in-Err : goal.returns-in-Err
returns-in-Err c = number_of-missing c.args.keys.now c.requires c.args.key.now c.in-Err.field-0
    c.in-Err.ensures.position
