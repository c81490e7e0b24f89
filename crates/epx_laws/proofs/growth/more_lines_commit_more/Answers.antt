use Rattle.std.proofs.Common.{Contains, ◌∙◌, subst}
use Rattle.epx_laws.proofs.growth.more_lines_commit_more.Goals as goal

pub returns : goal.returns
returns c = λ lines more gives m n by_lines by_more e h.
    let p = by_lines.given e h in
    let q = gives p.0 p.1 in
    subst (Contains n) (q.2 ∙ p.2) (by_more.whole q.0 q.1)
