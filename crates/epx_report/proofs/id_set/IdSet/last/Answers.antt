use Rattle.std.proofs.Common.{◌≡◌, option_copied, ap, ◌∙◌, rules}
use Rattle.epx_report.specs.inner.Progress.{last}
use Rattle.epx_report.proofs.IdSetLemmas.{last-with_late}
use Rattle.epx_report.proofs.id_set.IdSet.last.Goals as goal

pub returns : goal.returns
returns c =
    let own : option_copied c.last.result ≡ last c.self.inside.rising.items = search rules in
    own ∙ last-with_late c.self.inside.rising.items c.self.inside.late.keys c.self.invariant
    ∙ ap last c.self.view_is
