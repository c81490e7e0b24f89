use Rattle.std.proofs.Common.{◌≡◌, ◌++◌, replicate}
use Rattle.epx_audit.proofs.path_cover.push_copies.Given as goal

abbrev pub invariant-loop-copy : goal.invariant-loop-copy
invariant-loop-copy l = l.members.items ≡ l.fn.members.items ++ replicate l._copy l.member
