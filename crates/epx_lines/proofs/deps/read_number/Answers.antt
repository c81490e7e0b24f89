use Rattle.std.proofs.Common.{◌≡◌, ℕ, ◌^◌, ◌<◌, Option, None, Some, IfSome, option_and_then, refl}
use Rattle.std.proofs.Common.{ap, ◌∙◌, arith, rules}
use Rattle.epx_types.proofs.Common.{nat_tests}
use Rattle.epx_lines.specs.Elements.{if_below, whole}
use Rattle.epx_lines.proofs.deps.read_number.Goals as goal

-- a bound that a number keeps anyway changes nothing
same_below : (bound : ℕ) (o : Option ℕ) → IfSome o (λ n. n < bound)
    → o ≡ option_and_then (if_below bound) o
same_below bound None h = refl
same_below bound (Some n) h = grind (arith, nat_tests, h)

pub returns : goal.returns
unfolding whole
returns c =
    let fits : IfSome c.as_u64.result (λ n. n < 2 ^ 64) = search rules in
    same_below (2 ^ 64) c.as_u64.result fits
    ∙ ap (option_and_then (if_below (2 ^ 64))) c.as_u64.ensures
