use Rattle.std.proofs.Common.{◌≤◌, ◌+◌, length}
use Rattle.epx_follow.specs.inner.HeldLines.{IsHeld, view_of}
use Rattle.epx_follow.specs.inner.OpenBatches.{HoldsBytes}
use Rattle.epx_follow.proofs.held_lines.HeldLines.take_lines.Given as goal

abbrev pub invariant-lines : goal.invariant-lines
invariant-lines l =
    let v = l.fn.executor in
    IsHeld v l.self
    × (l.self.next.line + length l.rest ≤ l.fn.self.next.line + length l.bytes)
    × (length l.rest ≤ length l.bytes)
    × HoldsBytes l.each (view_of v l.fn.self) l.bytes (view_of v l.self) l.rest

abbrev pub decreases-lines : goal.decreases-lines
decreases-lines l = length l.rest
