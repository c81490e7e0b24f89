use Rattle.std.proofs.Common.{◌≡◌, ℕ, List, Ok, subst}
use Rattle.epx_lines.specs.declared.Line.TheVariants.{Entry}
use Rattle.epx_lines.specs.Meaning.{meaning_of}
use Rattle.epx_state.proofs.LineReadingLemmas.{IsReadEntry-meaning}
use Rattle.epx_state.proofs.write.append_entry.Goals as goal

pub returns-clause-read : goal.returns-clause-read
returns-clause-read c =
    let entry = c.args.entry.now in
    IsReadEntry-meaning entry (subst (λ (t : List ℕ). meaning_of t ≡ Ok (Entry entry))
    c.in_ok-write_line.ensures.text c.in_ok-write_line.ensures.means)
