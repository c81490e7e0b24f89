use Rattle.std.proofs.Common.{◌≡◌, ◌<◌, ◌≤◌, ◌∙◌, ◌∷◌, ◌++◌, [], ap, length, arith, rules}
use Rattle.epx_txn.proofs.EvaluationLemmas.{IsDoneUpTo-start, IsDoneUpTo-read, IsDoneUpTo-done}
use Rattle.epx_txn.proofs.EvaluationLemmas.{command_on-at_abort}
use Rattle.epx_txn.proofs.EvaluationLemmas.{writes_of-at_abort, command_on-at_end, writes_of-at_end}
use Rattle.std.specs.FinMap as contents
use Rattle.epx_types.proofs.Common.{entries-empty}
use Rattle.epx_types.specs.declared.reply.Reply.TheVariants.{Values}
use Rattle.epx_txn.proofs.evaluation.operate_all.Goals as goal
use Rattle.epx_txn.proofs.evaluation.operate_all.Goals.{in-Read+in_ok-push-in-Read, in-Done}

pub loop-index-init : goal.loop-index-init
loop-index-init c = rw (c.new-draft.ensures, c.in_ok-got.ensures.items)
    (IsDoneUpTo-start c.args.ops.now c.args.store.now)

pub returns-in-Abort-clause-reply : goal.returns-in-Abort-clause-reply
returns-in-Abort-clause-reply c =
    let within : c.loop-index.index < length c.args.ops.now = omega arith in
    command_on-at_abort c.args.ops.now c.args.store.now c.loop-index.index c.loop-index.draft
    c.operate.new.draft c.loop-index.got.items c.index-ops-index.result c.loop-index.invariant
    within c.index-ops-index.is (rw c.in-Abort.is at c.in_ok-value.ensures)

pub returns-in-Abort-clause-writes : goal.returns-in-Abort-clause-writes
returns-in-Abort-clause-writes c =
    let within : c.loop-index.index < length c.args.ops.now = omega arith in
    ap contents.entries c.new-nothing.ensures
    ∙ entries-empty
    ∙ writes_of-at_abort c.args.ops.now c.args.store.now c.loop-index.index c.loop-index.draft
    c.operate.new.draft c.loop-index.got.items c.index-ops-index.result c.loop-index.invariant
    within c.index-ops-index.is (rw c.in-Abort.is at c.in_ok-value.ensures)

pub loop-index-preserved : goal.loop-index-preserved
loop-index-preserved c =
    let within : c.loop-index.index < length c.args.ops.now = omega arith in
    elim c.match-branch-3.branch [
      | in-Read+in_ok-push-in-Read w ↦
          let e : c.match-branch-3.got.items ≡ c.loop-index.got.items ++ w.in-Read.value ∷ [] =
          search rules in
          rw e
          (IsDoneUpTo-read c.args.ops.now c.args.store.now c.loop-index.index c.loop-index.draft
          c.operate.new.draft c.loop-index.got.items c.index-ops-index.result
          c.loop-index.invariant within c.index-ops-index.is w.in-Read.value
          (rw w.in-Read.is at c.in_ok-value.ensures))
      | in-Done w ↦
          let e : c.match-branch-3.got.items ≡ c.loop-index.got.items = search rules in
          rw e
          (IsDoneUpTo-done c.args.ops.now c.args.store.now c.loop-index.index c.loop-index.draft
          c.operate.new.draft c.loop-index.got.items c.index-ops-index.result
          c.loop-index.invariant within c.index-ops-index.is
          (rw w.in-Done.is at c.in_ok-value.ensures))
    ]

pub returns-clause-reply : goal.returns-clause-reply
returns-clause-reply c =
    let past : length c.args.ops.now ≤ c.loop-index.index = omega arith in
    ap (λ v. Values v) c.new.ensures
    ∙ command_on-at_end c.args.ops.now c.args.store.now c.loop-index.index c.loop-index.draft
    c.loop-index.got.items c.loop-index.invariant past

pub returns-clause-writes : goal.returns-clause-writes
returns-clause-writes c =
    let past : length c.args.ops.now ≤ c.loop-index.index = omega arith in
    writes_of-at_end c.args.ops.now c.args.store.now c.loop-index.index c.loop-index.draft
    c.loop-index.got.items c.loop-index.invariant past
