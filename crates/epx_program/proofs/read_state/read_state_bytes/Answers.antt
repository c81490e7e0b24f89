use Rattle.std.proofs.Common.{◌≡◌, ◌++◌, arith, subst, sym, take}
use Rattle.epx_types.proofs.Common.{common_steps}
use Rattle.epx_devices.specs.Deliveries.{Delivers}
use Rattle.epx_devices.proofs.TransferLemmas.{delivered-then}
use Rattle.epx_program.proofs.read_state.read_state_bytes.Goals as goal

pub loop-part-preserved : goal.loop-part-preserved
loop-part-preserved g c =
    let D = g.S.Source.model in
    let sofar = c.loop-part.bytes.items in
    let part = take c.in-Ok.count c.read_some.new.part in
    let grown : c.extend_from_slice.new.self.items ≡ sofar ++ part =
    grind (arith, common_steps) in
    subst (Delivers D c.args.source.now c.read_some.new.self) (sym grown)
    (delivered-then D c.args.source.now c.loop-part.source c.read_some.new.self sofar part _
    c.loop-part.invariant c.in-Ok.ensures.delivered)
