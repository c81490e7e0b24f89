use Rattle.std.proofs.Common.{◌≡◌, ◌<◌, ◌≤◌, length, take, drop, sym, inl, inr, true, false, arith}
use Rattle.std.proofs.Common.{rules}
use Rattle.epx_types.proofs.Common.{length-take-le}
use Rattle.epx_merge.specs.LogParts.{EndsLine}
use Rattle.epx_merge.proofs.LogPartLemmas.{lines_of_part}
use Rattle.epx_merge.proofs.GatheredLemmas.{start, IsReadUpTo-at_position, EndsReading-part_fails}
use Rattle.epx_merge.proofs.GatheredLemmas.{EndsReading-memory_after_part, line-part_fits}
use Rattle.epx_merge.proofs.GatheredLemmas.{DropsCached-part, AreGathered-next, most_unread-falls}
use Rattle.epx_merge.proofs.GatheredLemmas.{IsNext}
use Rattle.epx_merge.proofs.gathered_lines.gather_part.Goals as goal
use Rattle.epx_merge.proofs.gathered_lines.gather_part.Goals.{then-is_last, else-is_last}

pub returns-in-Err-clause-lines : goal.returns-in-Err-clause-lines
returns-in-Err-clause-lines g c = λ first lines cut h drops.
    let D = g.S.Source.model in
    let sources = c.args.sources.now in
    let at = c.args.at.now in
    let d = c.index-sources-at.result in
    let read =
    IsReadUpTo-at_position D first sources c.requires.few at lines h c.requires.within d in
    let origin = start D first sources c.requires.few at lines h c.requires.within d in
    let ends = c.read_on.ensures origin h.begun (sym h.done) (rw c.replace-rest.ensures.value read)
    in
    EndsReading-part_fails D first sources c.requires.few at lines h
    c.requires.within d c.read_on.new.source c.max-most.result c.in-Err.fault
    (rw c.in-Err.is at ends)

pub returns-in_default-clause-lines : goal.returns-in_default-clause-lines
returns-in_default-clause-lines g c = λ first lines cut h drops.
    let D = g.S.Source.model in
    let sources = c.args.sources.now in
    let at = c.args.at.now in
    let d = c.index-sources-at.result in
    let read =
    IsReadUpTo-at_position D first sources c.requires.few at lines h c.requires.within d in
    let origin = start D first sources c.requires.few at lines h c.requires.within d in
    let ends = c.read_on.ensures origin h.begun (sym h.done) (rw c.replace-rest.ensures.value read)
    in
    EndsReading-memory_after_part D first sources c.requires.few at lines h
    c.requires.within d c.read_on.new.source c.max-most.result c.in-Ok.part (rw c.in-Ok.is at ends)

pub returns-clause-lines : goal.returns-clause-lines
returns-clause-lines g c = λ first lines cut h drops.
    let D = g.S.Source.model in
    let sources = c.args.sources.now in
    let at = c.args.at.now in
    let d = c.index-sources-at.result in
    let read =
    IsReadUpTo-at_position D first sources c.requires.few at lines h c.requires.within d in
    let origin = start D first sources c.requires.few at lines h c.requires.within d in
    let ends = rw c.in-Ok.is at (c.read_on.ensures origin h.begun (sym h.done)
    (rw c.replace-rest.ensures.value read)) in
    let bytes = c.in-Ok.part.bytes.items in
    let end = c.whole_lines-end.result in
    let here = take end bytes in
    let upto : end ≤ length bytes = search rules in
    let all : c.in-Ok.part.is_last ≡ true → end ≡ length bytes =
    search (rules, c.whole_lines-end.ensures.last) in
    let feeds : c.in-Ok.part.is_last ≡ false → EndsLine here =
    search (rules, c.whole_lines-end.ensures.lines) in
    let rest = c.remove_front.new.bytes in
    let left : rest.items ≡ drop end bytes = search rules in
    let later = c.read_on.new.source in
    let most = c.max-most.result in
    let part = c.in-Ok.part in
    let size = length-take-le end bytes upto in
    let fits = line-part_fits D first sources c.requires.few at
    lines h c.requires.within d later most part ends here (omega (arith, size, upto)) in
    let added = (rw c.deref.ensures.value at c.in-Ok-add_part.ensures.lines) fits cut drops in
    let next : IsNext D first sources c.requires.few at lines
    h c.requires.within d later most part ends end c.in-Ok-add_part.line upto all feeds rest left
    c.if-is_last.drop = elim c.if-is_last.branch [
      | then-is_last w ↦ inl (w.if-is_last.true, w.drop-is)
      | else-is_last w ↦ inr (w.if-is_last.false, w.drop-is)
    ] in (
      lines_of_part h.ended h.begun here,
      DropsCached-part D first sources c.requires.few at lines h
          c.requires.within d later most part ends cut c.add_part.new.self here added.0,
      AreGathered-next D first sources c.requires.few at lines
          h c.requires.within d later most part ends end c.in-Ok-add_part.line upto all feeds rest
          left added.1 c.if-is_last.drop next,
    )

pub returns-clause-fewer : goal.returns-clause-fewer
returns-clause-fewer g c =
    let first = c.requires.begun.0 in
    let lines = c.requires.begun.1 in
    let h = c.requires.begun.2 in
    let D = g.S.Source.model in
    let sources = c.args.sources.now in
    let at = c.args.at.now in
    let d = c.index-sources-at.result in
    let read =
    IsReadUpTo-at_position D first sources c.requires.few at lines h c.requires.within d in
    let origin = start D first sources c.requires.few at lines h c.requires.within d in
    let ends = rw c.in-Ok.is at (c.read_on.ensures origin h.begun (sym h.done)
    (rw c.replace-rest.ensures.value read)) in
    let bytes = c.in-Ok.part.bytes.items in
    let end = c.whole_lines-end.result in
    let here = take end bytes in
    let upto : end ≤ length bytes = search rules in
    let all : c.in-Ok.part.is_last ≡ true → end ≡ length bytes =
    search (rules, c.whole_lines-end.ensures.last) in
    let feeds : c.in-Ok.part.is_last ≡ false → EndsLine here =
    search (rules, c.whole_lines-end.ensures.lines) in
    let rest = c.remove_front.new.bytes in
    let left : rest.items ≡ drop end bytes = search rules in
    let later = c.read_on.new.source in
    let most = c.max-most.result in
    let part = c.in-Ok.part in
    let next : IsNext D first sources c.requires.few at lines
    h c.requires.within d later most part ends end c.in-Ok-add_part.line upto all feeds rest left
    c.if-is_last.drop = elim c.if-is_last.branch [
      | then-is_last w ↦ inl (w.if-is_last.true, w.drop-is)
      | else-is_last w ↦ inr (w.if-is_last.false, w.drop-is)
    ] in
    let room : length at.rest.items < most = search rules in
    most_unread-falls D first sources c.requires.few at lines
    h c.requires.within d later most part ends end c.in-Ok-add_part.line upto all feeds rest left
    room c.if-is_last.drop next

pub returns-clause-few : goal.returns-clause-few
returns-clause-few g c =
    let first = c.requires.begun.0 in
    let lines = c.requires.begun.1 in
    let h = c.requires.begun.2 in
    let D = g.S.Source.model in
    let sources = c.args.sources.now in
    let at = c.args.at.now in
    let d = c.index-sources-at.result in
    let read =
    IsReadUpTo-at_position D first sources c.requires.few at lines h c.requires.within d in
    let origin = start D first sources c.requires.few at lines h c.requires.within d in
    let ends = rw c.in-Ok.is at (c.read_on.ensures origin h.begun (sym h.done)
    (rw c.replace-rest.ensures.value read)) in
    let bytes = c.in-Ok.part.bytes.items in
    let end = c.whole_lines-end.result in
    let here = take end bytes in
    let upto : end ≤ length bytes = search rules in
    let all : c.in-Ok.part.is_last ≡ true → end ≡ length bytes =
    search (rules, c.whole_lines-end.ensures.last) in
    let feeds : c.in-Ok.part.is_last ≡ false → EndsLine here =
    search (rules, c.whole_lines-end.ensures.lines) in
    let later = c.read_on.new.source in
    let most = c.max-most.result in
    let fits = line-part_fits D first sources c.requires.few at
    lines h c.requires.within d later most c.in-Ok.part ends here
    (omega (arith, length-take-le end bytes upto, upto)) in
    let added = rw c.deref.ensures.value at c.in-Ok-add_part.ensures.few in
    omega (arith, added, fits)
