use Rattle.std.proofs.Common.{◌≡◌, ℕ, suc, ◌+◌, [], ◌∷◌, ◌++◌, ◌∙◌, sym, subst, ap, length, arith}
use Rattle.std.proofs.Common.{append_assoc, append-nil}
use Rattle.epx_types.proofs.Common.{nil_from_length, on_ok_weaker, Placed}
use Rattle.epx_committed.specs.between.EntryLines.{entry_lines, entry_lines_from}
use Rattle.epx_committed.specs.between.Ledgers.{NotesLines}
use Rattle.epx_committed.proofs.entries.note_each.Goals as goal

pub loop-entry-preserved : goal.loop-entry-preserved
loop-entry-preserved c =
    let lines = c.loop-entry.lines.items in
    let rest = c.next.new.self.rest.items in
    let n : c.loop-entry.line + 1 ≡ suc c.loop-entry.line = omega arith in
    let line : ℕ → Placed =
    λ k. record { place = record { log = 0; line = k }; instance = c.in-Some.entry } in
    let is : c.new.result ≡ line (suc c.loop-entry.line) = c.new.ensures ∙ ap line n in
    let next = line (suc c.loop-entry.line) ∷ [] in
    let more = c.in_ok-push.ensures.items ∙ ap (λ p. lines ++ p ∷ []) is in (
      ap (λ l. l ++ entry_lines_from (suc (c.loop-entry.line + 1)) rest) more
          ∙ ap (λ k. (lines ++ next) ++ entry_lines_from (suc k) rest) n
          ∙ append_assoc lines next
          (entry_lines_from (suc (suc c.loop-entry.line)) rest)
          ∙ ap (λ es. lines ++ entry_lines_from (suc c.loop-entry.line) es)
          (sym c.in-Some.ensures.steps.0) ∙ c.loop-entry.invariant.0,
      omega (arith, c.loop-entry.invariant.1, ap length c.in-Some.ensures.steps.0),
    )

pub returns : goal.returns
returns c =
    let lines = c.loop-entry.lines.items in
    let none = nil_from_length c.loop-entry.entry-iterator.rest.items
    (sym c.loop-entry.entry-iterator.rest.ok.0 ∙ c.in-None.ensures.steps.0) in
    let all : lines ≡ entry_lines c.args.entries.items =
    sym (append-nil lines)
    ∙ ap (λ es. lines ++ entry_lines_from (suc c.loop-entry.line) es) (sym none)
    ∙ c.loop-entry.invariant.0 in
    on_ok_weaker c.note.result
    (subst (λ l. NotesLines l c.args.ledger.now c.note.new.self) all) c.note.ensures
