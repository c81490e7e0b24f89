use Rattle.std.proofs.Common.{◌≡◌, ◌≤◌, ◌+◌, ◌++◌, length, take, arith, false, rules, append_assoc}
use Rattle.std.proofs.Common.{ap, sym, ◌∙◌, subst}
use Rattle.epx_types.proofs.Common.{common_steps, length-append}
use Rattle.epx_devices.specs.between.LogParts.{IsReadUpTo}
use Rattle.epx_devices.proofs.TransferLemmas.{IsReadUpTo-step, EndsLog-out_of_memory}
use Rattle.epx_devices.proofs.transfer.read_on.Goals as goal

pub returns-in_err-map_err-in-Ok : goal.returns-in_err-map_err-in-Ok
returns-in_err-map_err-in-Ok g c = λ first head long before.
    let D = g.R.Source.model in
    let sofar = c.loop-bytes.bytes.items in
    let part = take c.in-Ok.count c.read_some.new.part in
    let whole : D.has_failed c.read_some.new.self ≡ false = grind (arith, common_steps) in
    let few : c.args.before + (length sofar + length part) ≤ 67108865 =
    grind (arith, common_steps) in
    let read = IsReadUpTo-step D first c.loop-bytes.source
    c.read_some.new.self (head ++ sofar) part _ (c.loop-bytes.invariant.2 first head long before)
    c.in-Ok.ensures.bytes.0 c.in-Ok.ensures.delivered
    (omega (arith, few, long, length-append head sofar)) whole in
    let lost = EndsLog-out_of_memory D c.args.log first
    c.read_some.new.self c.read_some.new.self _ read in
    search (rules, lost)

pub loop-bytes-preserved : goal.loop-bytes-preserved
loop-bytes-preserved g c =
    let D = g.R.Source.model in
    let sofar = c.loop-bytes.bytes.items in
    let part = take c.in-Ok.count c.read_some.new.part in
    let whole : D.has_failed c.read_some.new.self ≡ false = grind (arith, common_steps) in
    let few : c.args.before + (length sofar + length part) ≤ 67108865 =
    grind (arith, common_steps) in
    let grown : c.extend_from_slice.new.self.items ≡ sofar ++ part =
    grind (arith, common_steps) in (
      whole,
      rw grown (omega (arith, few, length-append sofar part)),
      λ first head long before.
          let read = IsReadUpTo-step D first c.loop-bytes.source
          c.read_some.new.self (head ++ sofar) part _
          (c.loop-bytes.invariant.2 first head long before)
          c.in-Ok.ensures.bytes.0 c.in-Ok.ensures.delivered
          (omega (arith, few, long, length-append head sofar)) whole in
          subst (IsReadUpTo D first c.read_some.new.self)
          (append_assoc head sofar part ∙ ap (λ l. head ++ l) (sym grown)) read,
    )
