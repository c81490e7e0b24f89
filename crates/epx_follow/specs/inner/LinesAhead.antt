-- Lines that are read before they are taken.
use Rattle.std.specs.Prelude.{◌≡◌, Ok}
use Rattle.epx_lines.specs.Meaning.{meaning_of}
use Rattle.epx_follow.specs.declared.lines_ahead.ReadLine.{ReadLine}

-- what is kept of a line is its meaning
abbrev pub IsReadRight : ReadLine → Type 0
IsReadRight r = meaning_of r.bytes.now ≡ Ok r.line
