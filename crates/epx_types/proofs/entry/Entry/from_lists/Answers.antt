use Rattle.std.proofs.Common.{◌∙◌, sym, refl, rules}
use Rattle.epx_types.proofs.entry.Entry.from_lists.Goals as goal

pub invariant_of-result : goal.invariant_of-result
invariant_of-result c = rw (← c.as_slice.ensures, ← c.as_slice-2.ensures)
    ((c.is_well_formed.ensures c.args.seq).0 c.if-is_well_formed.true)

pub returns-then-is_well_formed-clause-fits : goal.returns-then-is_well_formed-clause-fits
returns-then-is_well_formed-clause-fits c = ((λ _. invariant_of-result c), (λ _. refl))

pub returns-else-is_well_formed-clause-fits : goal.returns-else-is_well_formed-clause-fits
returns-else-is_well_formed-clause-fits c = (
  (λ e. search (rules, e)),
  (λ fits. sym c.if-is_well_formed.false ∙ (c.is_well_formed.ensures c.args.seq).1
      (rw (c.as_slice.ensures, c.as_slice-2.ensures) fits)),
)
