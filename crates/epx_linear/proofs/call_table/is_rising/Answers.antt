use Rattle.std.proofs.Common.{◌≡◌, ◌+◌, ◌-◌, inl, inr, get_or, map, ap, subst₂}
use Rattle.std.proofs.Common.{sym, ◌∙◌, is_lt, arith}
use Rattle.std.proofs.lemmas.List.{get_or-map}
use Rattle.epx_types.proofs.Common.{cases_lt, length-map, Below, IsRising-from_neighbours}
use Rattle.epx_types.specs.declared.id.Id.{Id}
use Rattle.epx_linear.specs.declared.call_table.CallRow.{CallRow}
use Rattle.epx_linear.proofs.CallRowLemmas.{no_row}
use Rattle.epx_linear.proofs.call_table.is_rising.Goals as goal

pub loop-index-preserved : goal.loop-index-preserved
loop-index-preserved c k d low =
    let rows = c.args.rows.now in
    let i = c.loop-index.index in
    let id_of : CallRow → Id = λ r. r.id in
    elim (cases_lt (k + 1) i) [
      | inl old ↦ c.loop-index.invariant k d old
      | inr new ↦
          let last : i ≡ k + 1 = omega (arith, low, new) in
          let first : i - 1 ≡ k = omega (arith, last) in
          let lower : Below (get_or rows (i - 1) no_row).id (get_or rows i no_row).id =
          sym (ap is_lt c.cmp.ensures) ∙ sym c.is_lt.ensures ∙ c.if-not-is_lt.false in
          subst₂ Below
          (sym (get_or-map id_of rows k no_row d (omega (arith, c.loop-index-test.true, last))))
          (sym (get_or-map id_of rows (k + 1) no_row d
          (omega (arith, c.loop-index-test.true, last))))
          (subst₂ (λ a b. Below (get_or rows a no_row).id (get_or rows b no_row).id) first last
          lower)
    ]

pub returns : goal.returns
returns c is_true =
    let ids = map (λ (r : CallRow). r.id) c.args.rows.now in
    IsRising-from_neighbours ids (λ k d low. c.loop-index.invariant k d (omega (
      arith,
      low,
      length-map c.args.rows.now (λ (r : CallRow). r.id),
      c.loop-index-test.false,
    )))
