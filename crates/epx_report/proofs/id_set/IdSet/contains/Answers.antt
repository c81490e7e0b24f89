use Rattle.std.proofs.Common.{◌≡◌, true, false, sym, ap, ◌∙◌, rules}
use Rattle.epx_types.proofs.Common.{is_among}
use Rattle.epx_report.proofs.IdSetLemmas.{is_among-rising, is_among-late}
use Rattle.epx_report.proofs.id_set.IdSet.contains.Goals as goal

pub returns-then-contains_id : goal.returns-then-contains_id
returns-then-contains_id c =
    let found : is_among c.self.inside.rising.items c.args.id.now ≡ true = search rules in
    c.if-contains_id.true ∙ sym
    (is_among-rising c.self.inside.rising.items c.self.inside.late.keys c.self.invariant
    c.args.id.now found) ∙ ap (λ ids. is_among ids c.args.id.now) c.self.view_is

pub returns-else-contains_id : goal.returns-else-contains_id
returns-else-contains_id c =
    let missed : is_among c.self.inside.rising.items c.args.id.now ≡ false = search rules in
    c.contains.ensures ∙ is_among-late c.self.inside.rising.items c.self.inside.late.keys
    c.self.invariant c.args.id.now missed ∙ ap (λ ids. is_among ids c.args.id.now)
    c.self.view_is
