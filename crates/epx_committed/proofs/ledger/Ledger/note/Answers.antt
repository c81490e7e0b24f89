use Rattle.std.proofs.Common.{◌≡◌, ◌∙◌, sym, ap, subst, subst₂, [], ◌∷◌, length, take, arith}
use Rattle.epx_types.proofs.Common.{take_at}
use Rattle.epx_committed.specs.between.Ledgers.{NotesLines}
use Rattle.epx_committed.specs.inner.FirstLines.{AreFirstLines, ledger_view}
use Rattle.epx_committed.proofs.FirstLineLemmas.{AreFirstLines-list, AreFirstLines-without}
use Rattle.epx_committed.proofs.FirstLineLemmas.{NotesLines-list, NotesLines-without}
use Rattle.epx_committed.proofs.ledger.Ledger.note.Goals as goal

pub invariant_of-self : goal.invariant_of-self
invariant_of-self c = subst (λ l. AreFirstLines l c.self.inside.firsts)
    (sym c.in_err-push.ensures.items) c.self.invariant

pub note_list-requires-clause-firsts : goal.note_list-requires-clause-firsts
note_list-requires-clause-firsts c =
    let firsts = c.self.inside.firsts in
    subst (λ l. AreFirstLines l firsts) (sym (c.deref.ensures.value ∙ c.in_ok-push.ensures.items))
    (AreFirstLines-list c.self.inside.lists.items firsts c.self.invariant c.args.lines)

pub invariant_of-self-then-len-known : goal.invariant_of-self-then-len-known
invariant_of-self-then-len-known c =
    let lists = c.self.inside.lists in
    let old = c.self.inside.firsts in
    let new = c.note_list.new.self in
    let noted = c.in_ok-note_list.ensures in
    let as_many : length new.rows.items ≡ length old.rows.items =
    omega (
      arith,
      c.if-len-known.true,
      c.len.ensures,
      c.len-known.ensures,
      new.rows.ok.0,
      old.rows.ok.0,
    ) in
    let left : c.truncate.new.self.items ≡ lists.items =
    c.truncate.ensures.items ∙ ap (take c.len-list.result) c.in_ok-push.ensures.items
    ∙ take_at lists.items (c.args.lines ∷ []) c.len-list.result
    (omega (arith, c.len-list.ensures, lists.ok.0)) in
    subst (λ l. AreFirstLines l new) (sym left)
    (AreFirstLines-without lists.items c.deref.result.now old new c.self.invariant noted.firsts
    noted.rows as_many)

pub invariant_of-self-else-len-known : goal.invariant_of-self-else-len-known
invariant_of-self-else-len-known c = subst (λ l. AreFirstLines l c.note_list.new.self)
    c.deref.ensures.value c.in_ok-note_list.ensures.firsts

pub returns-then-len-known : goal.returns-then-len-known
returns-then-len-known c =
    let lists = c.self.inside.lists in
    let old = c.self.inside.firsts in
    let new = c.note_list.new.self in
    let noted = c.in_ok-note_list.ensures in
    let at : c.len-list.result ≡ length lists.items =
    omega (arith, c.len-list.ensures, lists.ok.0) in
    let as_many : length new.rows.items ≡ length old.rows.items =
    omega (
      arith,
      c.if-len-known.true,
      c.len.ensures,
      c.len-known.ensures,
      new.rows.ok.0,
      old.rows.ok.0,
    ) in
    let left : c.truncate.new.self.items ≡ lists.items =
    c.truncate.ensures.items ∙ ap (take c.len-list.result) c.in_ok-push.ensures.items
    ∙ take_at lists.items (c.args.lines ∷ []) c.len-list.result (sym at) in
    subst₂ (NotesLines c.args.lines.items) c.self.view_is
    (ap (λ l. ledger_view l new) (sym left))
    (NotesLines-without lists.items old new c.self.invariant c.args.lines c.deref.result.now
    (c.deref.ensures.value ∙ c.in_ok-push.ensures.items) c.len-list.result at noted.noted
    noted.firsts noted.rows as_many)

pub returns-else-len-known : goal.returns-else-len-known
returns-else-len-known c =
    let lists = c.self.inside.lists in
    let at : c.len-list.result ≡ length lists.items =
    omega (arith, c.len-list.ensures, lists.ok.0) in
    subst₂ (NotesLines c.args.lines.items) c.self.view_is
    (ap (λ l. ledger_view l c.note_list.new.self) c.deref.ensures.value)
    (NotesLines-list lists.items c.self.inside.firsts c.note_list.new.self c.self.invariant
    c.args.lines c.deref.result.now (c.deref.ensures.value ∙ c.in_ok-push.ensures.items)
    c.len-list.result at c.in_ok-note_list.ensures.noted)
