use Rattle.std.proofs.Common.{◌-◌, get_or, nat_cmp, sym, subst, ◌∙◌, arith}
use Rattle.epx_types.proofs.Common.{Below}
use Rattle.epx_types.specs.declared.id.Id.{Id}
use Rattle.epx_graph.proofs.NeighbourLemmas.{is_lt-from_lt, get_or-other_default, Below-before}
use Rattle.epx_graph.proofs.neighbours.all_below_before.Goals as goal

pub returns-then-index-ids : goal.returns-then-index-ids
returns-then-index-ids c = λ yes k d l.
    let ids = c.args.ids.now in
    let n = c.args.index in
    let x = c.args.id in
    let zero : Id = record { replica = 0; number = 0 } in
    let last = get_or ids (n - 1) zero in
    let below : Below last x = is_lt-from_lt (nat_cmp last.replica x.replica)
    (nat_cmp last.number x.number) (sym c.lt.ensures ∙ yes) in
    let same = get_or-other_default ids (n - 1) zero d (omega arith) in
    Below-before ids c.requires x n d (omega arith) (omega arith)
    (subst (λ y. Below y x) same below) k l
