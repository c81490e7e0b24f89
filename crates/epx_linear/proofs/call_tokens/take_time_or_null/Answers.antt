use Rattle.std.proofs.Common.{◌≡◌, pos, Some, None, rules}
use Rattle.epx_linear.proofs.CallTokenLemmas.{ParsesTo-absent, ParsesTo-time_or_null}
use Rattle.epx_linear.proofs.call_tokens.take_time_or_null.Goals as goal

pub returns-in_ok-ok-in-Some : goal.returns-in_ok-ok-in-Some
returns-in_ok-ok-in-Some c =
    let n = c.in_ok-ok-in-Some.field-0 in
    let is : c.in_ok-time.field-0 ≡ Some (pos n) = search rules in
    ParsesTo-time_or_null _ _ n (rw is at c.in_ok-time.ensures)

pub returns-in-None : goal.returns-in-None
returns-in-None c =
    let is : c.in_ok-time.field-0 ≡ None = search rules in
    ParsesTo-absent _ _ (rw is at c.in_ok-time.ensures)
