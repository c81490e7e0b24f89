-- What a history is. Each line says a call or is blank.
use Rattle.std.specs.Prelude.{◌≡◌, ℕ, List, map, Some}
use Rattle.epx_lines.specs.Lines.{lines_of}
use Rattle.epx_report.specs.BadLines.{IsFirstNotGood}
use Rattle.epx_report.specs.Lists.{filled_lines}
use Rattle.epx_report.specs.declared.base.BaseFault.{BaseFault}
use Rattle.epx_report.specs.declared.base.BaseFault.TheVariants.{Memory, Bad}
use Rattle.epx_linear.specs.declared.client_call.ClientCall.{ClientCall}
use Rattle.epx_linear.specs.ClientCalls.{IsHistory}
use Rattle.epx_linear.specs.HistoryLines.{call_line_of}

-- each line that is not blank says a call; these are the calls, in the order of the lines, and no
-- two are of the same instance
abbrev pub AreCalls : List (List ℕ) → List ClientCall → Type 0
AreCalls lines h = (map call_line_of (filled_lines lines) ≡ map Some h) × IsHistory h

-- the lines of the bytes that are not blank say these calls, in this order, and no two calls are of
-- the same instance
abbrev pub IsHistoryText : List ℕ → List ClientCall → Type 0
IsHistoryText bytes h = AreCalls (lines_of bytes) h

-- each line is blank or says a call, and no two calls are of the same instance
abbrev pub AreHistoryLines : List (List ℕ) → Type 0
AreHistoryLines lines = (h : List ClientCall) × AreCalls lines h

-- `line` is the number of the first line that is not blank, and says no call or calls an instance
-- again
abbrev pub IsBadHistory : List ℕ → ℕ → Type 0
IsBadHistory bytes line = IsFirstNotGood AreHistoryLines (lines_of bytes) line

-- why bytes are refused as a history: `Bad` has the number of the first bad line, and `Memory` says
-- nothing about the bytes
abbrev pub IsHistoryFault : List ℕ → BaseFault → Type 0
IsHistoryFault bytes Memory = Unit {0}
IsHistoryFault bytes (Bad line) = IsBadHistory bytes line
