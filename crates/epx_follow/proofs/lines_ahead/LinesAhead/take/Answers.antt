use Rattle.std.proofs.Common.{◌≡◌, Ok, Some, rules, subst}
use Rattle.std.proofs.lemmas.List.Elements.{All-pop}
use Rattle.epx_lines.specs.Meaning.{meaning_of}
use Rattle.epx_follow.specs.inner.LinesAhead.{IsReadRight}
use Rattle.epx_follow.proofs.lines_ahead.LinesAhead.take.Goals as goal

pub returns-then-eq : goal.returns-then-eq
returns-then-eq c =
    let read = c.in_ok-own.field-0 in
    let right = All-pop IsReadRight c.self.inside.next.items c.pop.new.self.items (Some read)
    c.in_ok-own.ensures.items c.self.invariant.0 in
    let same : read.bytes.now ≡ c.args.bytes.now = search rules in
    subst (λ bytes. meaning_of bytes ≡ Ok read.line) same right.1
