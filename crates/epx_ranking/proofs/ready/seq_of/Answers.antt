use Rattle.std.proofs.Common.{◌≡◌, None, option_copied, sym, ap, ◌∙◌, rules}
use Rattle.epx_types.proofs.Common.{Instance, instance_of, instance_of-iff_contains}
use Rattle.epx_types.proofs.Common.{Contains-from_map}
use Rattle.epx_types.proofs.Common.{Contains-slice_get, slice_get-from_map}
use Rattle.epx_types.proofs.lists.ListPositionLemmas.{slice_get-map}
use Rattle.epx_ranking.proofs.ready.seq_of.Goals as goal

pub unreachable-requires : goal.unreachable-requires
unreachable-requires c =
    let m = c.args.merged.now in
    let e = Contains-from_map (λ (d : Instance). d.id) m c.args.id c.requires in
    let some = (instance_of-iff_contains m c.len.ensures.rising c.args.id e.0).1 (e.1, e.2) in
    let none : instance_of m c.args.id ≡ None =
    sym c.get.ensures ∙ ap option_copied c.in-None.is in
    cc (some, none)

pub returns-then-eq : goal.returns-then-eq
returns-then-eq c =
    let m = c.args.merged.now in
    let node = c.args.node in
    let x = slice_get-from_map (λ (d : Instance). d.seq) m node c.seq_at.result c.seq_at.ensures in
    let id = slice_get-map (λ (d : Instance). d.id) m node x.0 x.1 in
    let same : c.id_at.result ≡ c.args.id = search rules in
    (x.0, Contains-slice_get m node x.0 x.1, cc (id, c.id_at.ensures, same), x.2)

pub returns : goal.returns
returns c =
    let found = (instance_of-iff_contains c.args.merged.now c.len.ensures.rising c.args.id
    c.in-Some.entry.now).0 (sym c.get.ensures ∙ ap option_copied c.in-Some.is) in
    (c.in-Some.entry.now, found.0, found.1, sym c.seq.ensures)
