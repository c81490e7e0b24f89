use Rattle.std.proofs.Common.{◌∙◌, sym}
use Rattle.epx_txn.proofs.DraftLemmas.{contents_through-written, contents_through-unwritten}
use Rattle.epx_txn.proofs.draft.value_before.Goals as goal

pub returns-in-Some : goal.returns-in-Some
returns-in-Some c =
    contents_through-written c.args.draft.now c.args.store.now c.args.key.now c.in-Some.value
    (sym c.in-Some.ensures)

pub returns-in-None : goal.returns-in-None
returns-in-None c =
    c.get-in-None.ensures
    ∙ contents_through-unwritten c.args.draft.now c.args.store.now c.args.key.now
    (sym c.in-None.ensures)
