use Rattle.std.proofs.Common.{get_or, nat_cmp, sym, subst, ◌∙◌, arith}
use Rattle.epx_types.proofs.Common.{Below}
use Rattle.epx_types.specs.declared.id.Id.{Id}
use Rattle.epx_graph.proofs.NeighbourLemmas.{is_lt-from_lt, get_or-other_default, Below-after}
use Rattle.epx_graph.proofs.neighbours.all_above_from.Goals as goal

pub returns : goal.returns
returns c = λ yes k d l within.
    let ids = c.args.ids.now in
    let n = c.args.index in
    let x = c.args.id in
    let zero : Id = record { replica = 0; number = 0 } in
    let first = get_or ids n zero in
    let below : Below x first = is_lt-from_lt (nat_cmp x.replica first.replica)
    (nat_cmp x.number first.number) (sym c.lt.ensures ∙ yes) in
    let same = get_or-other_default ids n zero d (omega arith) in
    Below-after ids c.requires x n d (subst (Below x) same below) k l within
