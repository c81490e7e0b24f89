use Rattle.epx_txn.specs.inner.Drafts.{contents_through}
use Rattle.epx_txn.proofs.DraftLemmas.{IsStepOf-written}
use Rattle.epx_txn.proofs.draft.operate.Goals as goal

pub returns-in_ok-set-in-Write : goal.returns-in_ok-set-in-Write
returns-in_ok-set-in-Write c =
    IsStepOf-written c.args.op.now c.args.store.now c.args.draft.now c.set.new.self
    c.in-Write.key.now c.in-Write.value c.in_ok-set-in-Write.ensures
    (c.in-Write.ensures (contents_through c.args.draft.now c.args.store.now) c.read_used.ensures)
