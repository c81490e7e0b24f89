use Rattle.std.proofs.Common.{◌≡◌, ◌∙◌, ℕ, ◌<◌, ◌==◌, ◌&&◌, true, not, get_or, length, arith, sym}
use Rattle.std.proofs.lemmas.Bool.{eq-eqb}
use Rattle.epx_types.specs.declared.id.Id.{Id}
use Rattle.epx_compare.proofs.GapLemmas.{goes_on-drop, is_log_marked-here}
use Rattle.epx_compare.proofs.gaps.goes_on_at.Goals as goal

pub returns-then-ids-index : goal.returns-then-ids-index
returns-then-ids-index c has marking =
    let zero : Id = record { replica = 0; number = 0 } in
    let ids = c.args.ids.now in
    let n = c.args.index in
    let within : n < length ids = omega arith in
    let marked = is_log_marked-here has ids n zero within c.args.log c.args.marks.now marking in
    let same : ((get_or ids n zero).replica == c.args.replica) ≡ true =
    eq-eqb (get_or ids n zero).replica c.args.replica c.if-ids-index.true in
    sym (goes_on-drop has ids n zero within c.args.replica
    ∙ (λ i. same i && not ((marked ∙ sym c.contains.ensures) i)))
