use Rattle.std.proofs.Common.{◌≡◌, ◌∙◌, Contains, subst, sym, true, true≢false}
use Rattle.epx_follow.proofs.OpenBatchLemmas.{IsHeld-entry, IsHeld-passed, view_of-joined}
use Rattle.epx_follow.proofs.held_lines.HeldLines.take_entry.Goals as goal
use Rattle.epx_follow.proofs.held_lines.HeldLines.take_entry.Goals.{In_ok-hold_entry}

pub returns-then-is_done-clause-held : goal.returns-then-is_done-clause-held
returns-then-is_done-clause-held c = IsHeld-passed c.args.executor.now c.args.self.now
    c.pass_line.new.self c.requires.held c.pass_line.ensures

left : (c : In_ok-hold_entry) → ¬ Contains c.args.executor.now.done c.args.entry.id
left c h =
    let done : c.is_done.result ≡ true = c.is_done.ensures.1
    (subst (Contains c.args.executor.now.done) (sym c.id.ensures) h) in
    true≢false (sym done ∙ c.if-is_done.false)

pub returns-clause-held : goal.returns-clause-held
returns-clause-held c = IsHeld-entry c.args.executor.now c.args.self.now
    c.hold_entry.new.self c.args.entry c.requires.held (left c) c.in_ok-hold_entry.ensures

pub returns-clause-joined : goal.returns-clause-joined
returns-clause-joined c = view_of-joined c.args.executor.now c.args.self.now
    c.hold_entry.new.self c.args.entry c.requires.held (left c) c.in_ok-hold_entry.ensures
