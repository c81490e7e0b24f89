use Rattle.std.proofs.Common.{◌≡◌, ◌*◌, ◌∙◌, ap, Some, rules}
use Rattle.epx_types.proofs.Common.{IfOk-weaker}
use Rattle.epx_calls.proofs.claims.map_to_tens.Goals as goal

pub returns : goal.returns
returns g c =
    IfOk-weaker c.claimed_map.result _ _ (λ v h i inside.
    let a = h.each i inside in
    let answer = a.2 in
    let is : a.0 ≡ 10 * i = search rules in
    a.1 ∙ ap Some is) c.claimed_map.ensures.ok
