use Rattle.std.proofs.Common.{[], refl, rules}
use Rattle.epx_devices.proofs.TransferLemmas.{IsReadUpTo-none, EndsLog-from_part}
use Rattle.epx_devices.proofs.transfer.read_log.Goals as goal

pub returns-in_err-part-clause-stops : goal.returns-in_err-part-clause-stops
returns-in_err-part-clause-stops g c =
    let D = g.R.Source.model in
    let source = c.args.source.now in
    let ends = EndsLog-from_part D c.args.log source
    c.read_on.new.source [] c.read_on.result (c.read_on.ensures source [] refl
    (rw c.new.ensures.items (IsReadUpTo-none D source c.requires)))
    in
    search (rules, ends)

pub returns-in_err-part-clause-failed : goal.returns-in_err-part-clause-failed
returns-in_err-part-clause-failed g c =
    let D = g.R.Source.model in
    let source = c.args.source.now in
    let ends = EndsLog-from_part D c.args.log source
    c.read_on.new.source [] c.read_on.result (c.read_on.ensures source [] refl
    (rw c.new.ensures.items (IsReadUpTo-none D source c.requires)))
    in
    search (rules, ends)

pub returns-clause-delivered : goal.returns-clause-delivered
returns-clause-delivered g c =
    let D = g.R.Source.model in
    let source = c.args.source.now in
    let ends = EndsLog-from_part D c.args.log source
    c.read_on.new.source [] c.read_on.result (c.read_on.ensures source [] refl
    (rw c.new.ensures.items (IsReadUpTo-none D source c.requires)))
    in
    search (rules, ends)

pub returns-clause-end : goal.returns-clause-end
returns-clause-end g c =
    let D = g.R.Source.model in
    let source = c.args.source.now in
    let ends = EndsLog-from_part D c.args.log source
    c.read_on.new.source [] c.read_on.result (c.read_on.ensures source [] refl
    (rw c.new.ensures.items (IsReadUpTo-none D source c.requires)))
    in
    search (rules, ends)

pub returns-clause-failed : goal.returns-clause-failed
returns-clause-failed g c =
    let D = g.R.Source.model in
    let source = c.args.source.now in
    let ends = EndsLog-from_part D c.args.log source
    c.read_on.new.source [] c.read_on.result (c.read_on.ensures source [] refl
    (rw c.new.ensures.items (IsReadUpTo-none D source c.requires)))
    in
    search (rules, ends)

pub returns-clause-no_further : goal.returns-clause-no_further
returns-clause-no_further g c =
    let D = g.R.Source.model in
    let source = c.args.source.now in
    let ends = EndsLog-from_part D c.args.log source
    c.read_on.new.source [] c.read_on.result (c.read_on.ensures source [] refl
    (rw c.new.ensures.items (IsReadUpTo-none D source c.requires)))
    in
    search (rules, ends)
