use Rattle.std.proofs.Common.{◌≡◌, codes, arith, rules}
use Rattle.epx_lines.proofs.TokenValueLemmas.{ReadsValue-deeper}
use Rattle.epx_lines.proofs.EntryPartLemmas.{HoldsParts-replica, HoldsParts-number, HoldsParts-seq}
use Rattle.epx_lines.proofs.EntryPartLemmas.{HoldsParts-named, HoldsParts-ops, HoldsParts-status}
use Rattle.epx_lines.proofs.from_tokens.take_member.Goals as goal

pub returns-in_ok-take_replica : goal.returns-in_ok-take_replica
returns-in_ok-take_replica c =
    let named : c.args.name.now ≡ codes "r" = search rules in
    let g = c.in_ok-take_replica.ensures in (
      g.0,
      ReadsValue-deeper 0 2 _ g.0 _ (omega arith) g.1,
      λ ms h. rw named (HoldsParts-replica g.0 ms c.args.parts.now h _ g.2),
    )

pub returns-in_ok-take_number : goal.returns-in_ok-take_number
returns-in_ok-take_number c =
    let named : c.args.name.now ≡ codes "i" = search rules in
    let g = c.in_ok-take_number.ensures in (
      g.0,
      ReadsValue-deeper 0 2 _ g.0 _ (omega arith) g.1,
      λ ms h. rw named (HoldsParts-number g.0 ms c.args.parts.now h _ g.2),
    )

pub returns-in_ok-take_number-2 : goal.returns-in_ok-take_number-2
returns-in_ok-take_number-2 c =
    let named : c.args.name.now ≡ codes "seq" = search rules in
    let g = c.in_ok-take_number-2.ensures in (
      g.0,
      ReadsValue-deeper 0 2 _ g.0 _ (omega arith) g.1,
      λ ms h. rw named (HoldsParts-seq g.0 ms c.args.parts.now h _ g.2),
    )

pub returns-in_ok-take_ids : goal.returns-in_ok-take_ids
returns-in_ok-take_ids c =
    let named : c.args.name.now ≡ codes "deps" = search rules in
    let g = c.in_ok-take_ids.ensures in (
      g.0,
      g.1,
      λ ms h. rw named
          (HoldsParts-named g.0 ms c.args.parts.now h c.in_ok-take_ids.field-0 g.2),
    )

pub returns-in_ok-take_ops : goal.returns-in_ok-take_ops
returns-in_ok-take_ops c =
    let named : c.args.name.now ≡ codes "ops" = search rules in
    let g = c.in_ok-take_ops.ensures in (
      g.0,
      g.1,
      λ ms h. rw named
          (HoldsParts-ops g.0 ms c.args.parts.now h c.in_ok-take_ops.field-0 g.2),
    )

pub returns-in_ok-take_committed : goal.returns-in_ok-take_committed
returns-in_ok-take_committed c =
    let named : c.args.name.now ≡ codes "status" = search rules in
    let g = c.in_ok-take_committed.ensures in (
      g.0,
      ReadsValue-deeper 0 2 _ g.0 _ (omega arith) g.1,
      λ ms h. rw named (HoldsParts-status g.0 ms c.args.parts.now h g.2),
    )
