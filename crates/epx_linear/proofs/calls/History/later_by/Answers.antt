use Rattle.std.proofs.Common.{◌∙◌, sym, subst, ap}
use Rattle.epx_linear.specs.ClientCalls.{IsHistory}
use Rattle.epx_linear.specs.inner.CallRows.{AreCallRows}
use Rattle.epx_linear.specs.inner.HistoryReadings.{called_ids}
use Rattle.epx_linear.proofs.SkewLemmas.{IsHistory-later_by, called_ids-later_by}
use Rattle.epx_linear.proofs.calls.History.later_by.Goals as goal

pub invariant_of-result : goal.invariant_of-result
invariant_of-result c =
    let calls = c.self.inside.calls.items in
    let is = c.self.invariant in (
      subst IsHistory (sym c.add_skew.ensures) (IsHistory-later_by c.args.skew calls is.0),
      subst (λ ids. AreCallRows ids c.self.inside.table)
          (sym (ap called_ids c.add_skew.ensures ∙ called_ids-later_by c.args.skew calls)) is.1,
    )
