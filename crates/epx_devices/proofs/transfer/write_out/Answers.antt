use Rattle.std.proofs.Common.{◌≡◌, arith}
use Rattle.epx_types.proofs.Common.{common_steps}
use Rattle.epx_devices.proofs.TransferLemmas.{IsWritten-step}
use Rattle.epx_devices.proofs.transfer.write_out.Goals as goal

pub loop-taken-preserved : goal.loop-taken-preserved
loop-taken-preserved g c =
    let D = g.W.Sink.model in
    let whole : D.has_failed c.write_some.new.self ≡ D.has_failed c.args.sink.now =
    grind (arith, common_steps) in
    IsWritten-step D c.args.sink.now c.loop-taken.sink c.write_some.new.self c.args.bytes.now
    c.loop-taken.taken c.in-Ok.count c.loop-taken.invariant c.in-Ok.ensures.bound
    c.in-Ok.ensures.bytes whole
