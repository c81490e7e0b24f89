use Rattle.std.proofs.Common.{arith}
use Rattle.epx_apply.proofs.KeyTableLemmas.{IsLeastAbove-within, AddsCommand-from_parts}
use Rattle.epx_apply.proofs.key_table.KeyTable.push_command.Goals as goal

pub note-requires-clause-collected : goal.note-requires-clause-collected
note-requires-clause-collected c = (
  c.requires.0,
  c.args.ops.now,
  (c.in_ok-level.ensures c.requires.0 c.requires.1.table).1,
)

pub note-requires-clause-fits : goal.note-requires-clause-fits
note-requires-clause-fits c =
    let next = (c.in_ok-level.ensures c.requires.0 c.requires.1.table).0 in
    let low = IsLeastAbove-within c.requires.0 c.args.ops.now c.args.self.now c.in_ok-level.level
    c.requires.1 next in
    omega (arith, low, c.requires.2)

pub returns : goal.returns
returns c =
    AddsCommand-from_parts c.args.ops.now c.in_ok-level.level c.args.self.now c.least_above.new.self
    c.note.new.self c.in_ok-level.ensures c.note.ensures
