use Rattle.std.proofs.Common.{◌≢◌, ◌∙◌, sym, true≢false}
use Rattle.indexmap.proofs.CallerLemmas.{insert_entry-new}
use Rattle.epx_types.proofs.Common.{is_some-false}
use Rattle.epx_committed.specs.declared.ledger.Disagreement.{Disagreement}
use Rattle.epx_committed.proofs.LedgerMapLemmas.{same_id, NotesLines-equal}
use Rattle.epx_committed.proofs.LedgerMapLemmas.{NotesLines-disagreed, NotesLines-first_disagreed}
use Rattle.epx_committed.proofs.ledger.compare.Goals as goal
use Rattle.epx_committed.proofs.ledger.compare.Goals.{then-same_entry-via-then-same_entry}
use Rattle.epx_committed.proofs.ledger.compare.Goals.{then-same_entry-via-else-same_entry+then-contains_key}

pub returns-then-same_entry : goal.returns-then-same_entry
returns-then-same_entry c = λ firsts known.
    let disagreements = c.args.disagreements.now.entries in
    let line = c.args.line.now in
    let first = c.args.first.now in
    elim c.then-same_entry.branch [
      | then-same_entry-via-then-same_entry w ↦
          NotesLines-equal firsts disagreements line first known
          (sym c.entry.ensures ∙ c.same_entry.ensures.0 w.if-same_entry.true
          ∙ c.entry-2.ensures)
      | then-same_entry-via-else-same_entry+then-contains_key w ↦
          NotesLines-disagreed firsts disagreements line first known c.id-id.result c.id-id.ensures
          (sym w.contains_key.ensures ∙ w.if-contains_key.true)
    ]

pub returns : goal.returns
returns c = λ firsts known.
    let disagreements = c.args.disagreements.now in
    let line = c.args.line.now in
    let first = c.args.first.now in
    let disagreement : Disagreement =
    record { first = c.place.result; second = c.place-2.result } in
    let absent = sym c.contains_key.ensures ∙ c.if-contains_key.false in
    let last = c.in_ok-insert.ensures.entries ∙ insert_entry-new same_id disagreements
    c.id-id.result disagreement (is_some-false _ absent) in
    let differ : first.instance ≢ line.instance =
    λ e. true≢false (sym (c.same_entry.ensures.1 (c.entry.ensures ∙ e ∙ sym c.entry-2.ensures))
    ∙ c.if-same_entry.false) in
    NotesLines-first_disagreed firsts disagreements.entries line first known c.id-id.result
    c.id-id.ensures
    disagreement c.insert.new.self.entries differ absent c.place.ensures
    c.place-2.ensures last
