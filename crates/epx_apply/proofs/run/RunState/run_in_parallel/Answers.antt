use Rattle.std.proofs.Common.{◌∙◌, ap}
use Rattle.epx_types.proofs.Common.{commands_at, apply_writes}
use Rattle.epx_apply.specs.inner.Effects.{op_lists_of, put_replies}
use Rattle.epx_store.proofs.MergeLemmas.{writes_in}
use Rattle.epx_apply.proofs.LevelEffectLemmas.{HasDistinctKeys-effects, final-merged}
use Rattle.epx_apply.proofs.LevelEffectLemmas.{replies_in-execute}
use Rattle.epx_apply.proofs.run.RunState.run_in_parallel.Goals as goal

pub merge_effects-requires-after_bounds : goal.merge_effects-requires-after_bounds
merge_effects-requires-after_bounds g c κs within =
    HasDistinctKeys-effects (commands_at (op_lists_of c.args.commands.now) c.args.positions.now)
    c.args.self.now.store c.deref.result.now (c.deref.ensures.value ∙ c.in_ok-effects.ensures)
    c.requires.apart

pub returns-clause-store : goal.returns-clause-store
returns-clause-store g c =
    final-merged (commands_at (op_lists_of c.args.commands.now) c.args.positions.now)
    c.args.self.now.store c.deref.result.now
    (c.deref.ensures.value ∙ c.in_ok-effects.ensures) c.requires.apart
    c.in_ok-self.field-0 (c.in_ok-self.ensures
    ∙ ap (apply_writes (writes_in c.deref.result.now)) c.replace-before.ensures.value)

pub returns-clause-replies : goal.returns-clause-replies
returns-clause-replies g c =
    c.put_all_replies.ensures
    ∙ ap (λ rs. put_replies c.args.positions.now rs c.args.self.now.replies.items)
    (replies_in-execute (commands_at (op_lists_of c.args.commands.now) c.args.positions.now)
    c.args.self.now.store c.in_ok-effects.effects.items c.in_ok-effects.ensures c.requires.apart)
