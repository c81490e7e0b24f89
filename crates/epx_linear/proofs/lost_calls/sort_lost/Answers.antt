use Rattle.std.proofs.Common.{◌≡◌, ◌∙◌, fold, sym, ap, inl, inr, rules}
use Rattle.std.specs.BTreeSet.{insert_key}
use Rattle.epx_types.proofs.Common.{id_cmp}
use Rattle.epx_linear.proofs.LostCallLemmas.{unmarked_ids-nil}
use Rattle.epx_linear.proofs.lost_calls.sort_lost.Goals as goal

-- the loop ends at the end of the calls or of the marks
pub returns : goal.returns
returns c =
    let keys = c.loop-call.lost.keys in
    let same : c.in_ok-collect.field-0.items ≡ keys = search rules in
    same ∙ ap (fold (insert_key id_cmp) keys) (sym (unmarked_ids-nil _ _
    (elim c.in-None.ensures.steps [ inl a ↦ inl a.1.0 | inr b ↦ inr b.1.0 ])))
    ∙ c.loop-call.invariant
