use Rattle.std.proofs.Common.{◌≡◌, ◌++◌, flat_map, map, zip}
use Rattle.epx_types.proofs.Common.{IfOk-at_ok, commands_in}
use Rattle.epx_report.specs.ReportLines.{reply_line}
use Rattle.epx_replay.proofs.batches.run_and_write.Goals as goal

pub returns-clause-text : goal.returns-clause-text
returns-clause-text g c =
    (IfOk-at_ok (λ v. (v.0.items
    ≡ c.args.step.text.items
    ++ flat_map reply_line (zip c.args.ids.now c.args.step.replies.items))
    × (map (λ k. k.ops.now) v.1.items ≡ commands_in c.args.merged.now c.args.later.now))
    c.in_ok-text-2.was c.join-found.ensures.first).0

pub returns-clause-found : goal.returns-clause-found
returns-clause-found g c =
    (IfOk-at_ok (λ v. (v.0.items
    ≡ c.args.step.text.items
    ++ flat_map reply_line (zip c.args.ids.now c.args.step.replies.items))
    × (map (λ k. k.ops.now) v.1.items ≡ commands_in c.args.merged.now c.args.later.now))
    c.in_ok-text-2.was c.join-found.ensures.first).1
