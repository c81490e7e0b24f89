use Rattle.std.proofs.Common.{◌≡◌, ◌∙◌, ap, option_and_then, slice_get, subst}
use Rattle.epx_linear.specs.ClientCalls.{call_of}
use Rattle.epx_linear.specs.inner.HistoryReadings.{called_ids}
use Rattle.epx_linear.proofs.CallTableLemmas.{call_of-from_position}
use Rattle.epx_linear.proofs.calls.History.find.Goals as goal

pub returns : goal.returns
returns c =
    let calls = c.self.inside.calls.items in
    let is = c.self.invariant in
    subst (λ h. option_and_then (slice_get h) c.find.result ≡ call_of h c.args.id) c.self.view_is
    (ap (option_and_then (slice_get calls)) (c.find.ensures (called_ids calls) is.1)
    ∙ call_of-from_position calls is.0 c.args.id)
