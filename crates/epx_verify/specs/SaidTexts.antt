-- What a replica says of itself: its replies in the order in which it executed, then its store.
use Rattle.std.specs.Prelude.{◌≡◌, ℕ, List, ◌++◌, map, Some}
use Rattle.std.specs.FinMap as contents
use Rattle.epx_types.specs.declared.id.Id.{Id}
use Rattle.epx_types.specs.declared.reply.Reply.{Reply}
use Rattle.epx_types.specs.Contents.{Contents}
use Rattle.epx_lines.specs.Lines.{lines_of}
use Rattle.epx_report.specs.BadLines.{IsFirstNotGood}
use Rattle.epx_report.specs.declared.base.BaseFault.{BaseFault}
use Rattle.epx_report.specs.declared.base.BaseFault.TheVariants.{Memory, Bad}
use Rattle.epx_verify.specs.declared.said_line.SaidLine.{SaidLine}
use Rattle.epx_verify.specs.declared.said_line.SaidLine.TheVariants.{Replied, Stored}
use Rattle.epx_verify.specs.SaidLines.{said_line_of}

-- the reply lines, then a store line for each key, by rising key
abbrev pub lines_said : List (Id × Reply) → Contents → List SaidLine
lines_said replies stored =
    map (λ p. Replied p.0 p.1) replies ++ map (λ e. Stored e.0 e.1) (contents.entries stored)

-- the lines say these replies and this store, and nothing else. A blank line says nothing, so no
-- line is blank. An instance may have several replies
abbrev pub AreSaid : List (List ℕ) → List (Id × Reply) → Contents → Type 0
AreSaid lines replies stored = map said_line_of lines ≡ map Some (lines_said replies stored)

-- the bytes say these replies, in this order, and this store
abbrev pub IsSaid : List ℕ → List (Id × Reply) → Contents → Type 0
IsSaid bytes replies stored = AreSaid (lines_of bytes) replies stored

-- the lines say some replies and some store
abbrev pub AreSaidLines : List (List ℕ) → Type 0
AreSaidLines lines = (replies : List (Id × Reply)) × (stored : Contents)
    × AreSaid lines replies stored

-- `line`, from 1, is the first bad one: the lines before it say replies and then a store
-- (`AreSaidLines`), and with it they do not
abbrev pub IsBadSaid : List ℕ → ℕ → Type 0
IsBadSaid bytes line = IsFirstNotGood AreSaidLines (lines_of bytes) line

-- the fault of bytes that say no replies and store: their first bad line. `Memory` says nothing
-- about them
abbrev pub IsSaidFault : List ℕ → BaseFault → Type 0
IsSaidFault bytes Memory = Unit {0}
IsSaidFault bytes (Bad line) = IsBadSaid bytes line
