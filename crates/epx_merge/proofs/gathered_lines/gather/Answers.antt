use Rattle.std.proofs.Common.{◌++◌, ◌∙◌, [], length, subst, ap, arith, append_assoc}
use Rattle.epx_merge.specs.inner.Gathered.{AreGathered}
use Rattle.epx_merge.proofs.gathered_lines.gather.Goals as goal

pub returns-in-Err-clause-lines : goal.returns-in-Err-clause-lines
returns-in-Err-clause-lines g c = λ first lines h.
    rw c.in-Err.is at (c.gather_part.ensures.lines first lines [] h c.requires.empty)

pub loop-at-init : goal.loop-at-init
loop-at-init g c = (
  c.gather_part.auto.sources,
  rw c.in-Ok.is at c.gather_part.ensures.fewer,
  omega (
    arith,
    rw c.in-Ok.is at c.gather_part.ensures.few,
    ap length c.requires.empty,
  ),
  λ first lines h.
      rw c.in-Ok.is at (c.gather_part.ensures.lines first lines [] h c.requires.empty),
)

pub gather_part-requires-in-loop-at-clause-begun :
    goal.gather_part-requires-in-loop-at-clause-begun
gather_part-requires-in-loop-at-clause-begun g c =
    let first = c.requires.begun.0 in
    let lines = c.requires.begun.1 in
    let now = c.loop-at.invariant.3 first lines c.requires.begun.2 in
    (first, lines ++ now.0, now.2)

pub loop-at-preserved : goal.loop-at-preserved
loop-at-preserved g c =
    let h = c.loop-at.invariant in
    let part = c.gather_part-in-loop-at.ensures in
    let fewer = rw c.in-Ok-gather_part.is at part.fewer in (
      c.gather_part-in-loop-at.auto.sources ∙ h.0,
      omega (arith, fewer, h.1),
      omega (
        arith,
        rw c.in-Ok-gather_part.is at part.few,
        c.len.ensures,
        c.if-len-most.true,
      ),
      λ first lines given.
          let now = h.3 first lines given in
          let next = rw c.in-Ok-gather_part.is at
          (part.lines first (lines ++ now.0) now.0 now.2 now.1) in (
            now.0 ++ next.0,
            next.1,
            subst (AreGathered g.S.Source.model first
                c.gather_part-in-loop-at.new.sources c.gather_part-in-loop-at.new.at)
                (append_assoc lines now.0 next.0) next.2,
          ),
    )

pub returns-in-Err-gather_part-clause-lines : goal.returns-in-Err-gather_part-clause-lines
returns-in-Err-gather_part-clause-lines g c = λ first lines given.
    let now = c.loop-at.invariant.3 first lines given in
    rw c.in-Err-gather_part.is at
    (c.gather_part-in-loop-at.ensures.lines first (lines ++ now.0) now.0 now.2 now.1)
