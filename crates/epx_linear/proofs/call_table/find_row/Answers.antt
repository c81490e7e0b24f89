use Rattle.std.proofs.Common.{rules}
use Rattle.std.proofs.lemmas.List.Sorted.{answers_always}
use Rattle.epx_linear.proofs.CallRowLemmas.{Contains-no_row, Contains-row_at}
use Rattle.epx_linear.proofs.call_table.find_row.Goals as goal

pub returns-in-Ok : goal.returns-in-Ok
returns-in-Ok c = Contains-row_at c.args.rows.now c.requires c.args.id c.in-Ok.index _
    c.in-Ok.ensures.bound
    (c.in-Ok.ensures.position (λ r. r.id) (answers_always _ _ _ (λ f a r g called. search rules)))

pub returns-in-Err : goal.returns-in-Err
returns-in-Err c = Contains-no_row c.args.rows.now c.requires c.args.id c.in-Err.field-0
    (c.in-Err.ensures.position (λ r. r.id) (answers_always _ _ _ (λ f a r g called. search rules)))
