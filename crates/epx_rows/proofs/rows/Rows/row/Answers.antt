use Rattle.std.proofs.Common.{◌≡◌, ◌<◌, ◌∷◌, length, get_or, slice_range, sym, ap, ◌∙◌, arith}
use Rattle.epx_rows.specs.between.Rows.{row_of}
use Rattle.epx_rows.proofs.RowLemmas.{length-rows_from, AreRowEnds-rise, row_of-rows_from}
use Rattle.epx_rows.proofs.rows.Rows.row.Goals as goal

pub bounds-start-requires : goal.bounds-start-requires
bounds-start-requires c =
    omega (
      arith,
      c.requires,
      ap length c.deref.ensures.value,
      length-rows_from 0 c.self.inside.ends.items c.self.inside.numbers.items,
      ap length c.self.view_is,
    )

pub part-requires : goal.part-requires
part-requires c =
    let ends = c.self.inside.ends.items in
    let numbers = c.self.inside.numbers.items in
    let within : c.args.index < length ends =
    omega (arith, c.requires, length-rows_from 0 ends numbers, ap length c.self.view_is) in
    let rise = AreRowEnds-rise 0 ends (length numbers) c.self.invariant c.args.index within in
    let start : c.bounds-start.result.0 ≡ get_or (0 ∷ ends) c.args.index 0 =
    ap (λ p. p.0) c.bounds-start.ensures ∙ ap (λ es. get_or (0 ∷ es) c.args.index 0)
    c.deref.ensures.value in
    let end : c.bounds-start.result.1 ≡ get_or ends c.args.index 0 =
    ap (λ p. p.1) c.bounds-start.ensures ∙ ap (λ es. get_or es c.args.index 0)
    c.deref.ensures.value in
    record {
      start = omega (arith, rise.0);
      end = omega (arith, rise.1, ap length c.deref-2.ensures.value);
    }

pub returns : goal.returns
returns c =
    let ends = c.self.inside.ends.items in
    let numbers = c.self.inside.numbers.items in
    let within : c.args.index < length ends =
    omega (arith, c.requires, length-rows_from 0 ends numbers, ap length c.self.view_is) in
    c.part.ensures
    ∙ ap (λ ns. slice_range ns c.bounds-start.result.0 c.bounds-start.result.1)
    c.deref-2.ensures.value
    ∙ ap (λ p. slice_range numbers p.0 p.1) c.bounds-start.ensures
    ∙ ap (λ es. slice_range numbers (get_or (0 ∷ es) c.args.index 0) (get_or es c.args.index 0))
    c.deref.ensures.value
    ∙ sym (row_of-rows_from 0 ends numbers c.args.index within)
    ∙ ap (λ rows. row_of rows c.args.index) c.self.view_is
