use Rattle.std.proofs.Common.{◌≡◌, ◌+◌, ◌≤◌, ◌<◌, ◌++◌, length, map, All, ℕ, sym, ap, subst, ◌∙◌}
use Rattle.std.proofs.Common.{arith}
use Rattle.epx_types.proofs.Common.{length-append, All-weaker}
use Rattle.epx_rows.proofs.RowAppendLemmas.{All-ends_within, AreRowEnds-append, rows_from-append}
use Rattle.epx_rows.proofs.rows.Rows.append.Goals as goal

pub push_ends-requires : goal.push_ends-requires
push_ends-requires c =
    let xs = c.self.inside.numbers.items in
    let ys = c.later.inside.numbers.items in
    let now = c.extend_from_slice.new.self in
    let long : length now.items ≡ length xs + length ys =
    ap length (c.in_ok-extend_from_slice.ensures.items
    ∙ ap (λ l. xs ++ l) c.deref.ensures.value) ∙ length-append xs ys in
    let fits : (end : ℕ) → end ≤ length ys → c.len-before.result + end < 18446744073709551616 =
    λ end l. omega (arith, l, long, c.len-before.ensures, now.ok.0) in
    subst (All (λ end. c.len-before.result + end < 18446744073709551616))
    (sym c.deref-2.ensures.value)
    (All-weaker (λ end. end ≤ length ys) (λ end. c.len-before.result + end < 18446744073709551616)
    fits c.later.inside.ends.items
    (All-ends_within 0 c.later.inside.ends.items (length ys) c.later.invariant))

pub invariant_of-result : goal.invariant_of-result
invariant_of-result c =
    let xs = c.self.inside.numbers.items in
    let ends = c.self.inside.ends.items in
    let ends_are = c.in_ok-push_ends.ensures
    ∙ ap (λ es. ends ++ map (λ end. c.len-before.result + end) es) c.deref-2.ensures.value in
    let numbers_are = c.in_ok-extend_from_slice.ensures.items
    ∙ ap (λ l. xs ++ l) c.deref.ensures.value in
    AreRowEnds-append ends xs c.later.inside.ends.items c.later.inside.numbers.items
    c.push_ends.new.ends.items c.extend_from_slice.new.self.items c.len-before.result
    (omega (arith, c.len-before.ensures, c.self.inside.numbers.ok.0)) ends_are numbers_are
    c.self.invariant c.later.invariant

pub returns : goal.returns
returns c =
    let xs = c.self.inside.numbers.items in
    let ends = c.self.inside.ends.items in
    let ends_are = c.in_ok-push_ends.ensures
    ∙ ap (λ es. ends ++ map (λ end. c.len-before.result + end) es) c.deref-2.ensures.value in
    let numbers_are = c.in_ok-extend_from_slice.ensures.items
    ∙ ap (λ l. xs ++ l) c.deref.ensures.value in
    rows_from-append ends xs c.later.inside.ends.items c.later.inside.numbers.items
    c.push_ends.new.ends.items c.extend_from_slice.new.self.items c.len-before.result
    (omega (arith, c.len-before.ensures, c.self.inside.numbers.ok.0)) ends_are numbers_are
    c.self.invariant c.later.invariant
    ∙ (λ i. c.self.view_is i ++ c.later.view_is i)
