use Rattle.epx_views.proofs.LevelTextLemmas.{IsLevelText-printed}
use Rattle.epx_views.proofs.level_text.level_report.Goals as goal

pub returns : goal.returns
returns c = IsLevelText-printed c.args.merged.now c.args.order.now c.args.waiters.now
    c.ids-ids.result.now c.in_ok-levels.levels c.in_ok-text.text.items
    c.append_levels.new.text.items c.append_waiting.new.text.items c.ids-ids.ensures
    c.in_ok-levels.ensures c.in_ok-text.ensures c.in_ok-append_levels.ensures
    c.in_ok-append_waiting.ensures
