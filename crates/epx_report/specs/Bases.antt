-- What a base is: an earlier report, whose lines are in order and are as many as its header says.
use Rattle.std.specs.Prelude.{◌≡◌, ◌≢◌, ◌⊎◌, ◌↔◌, ℕ, ℤ, ◌+◌, List, ◌∷◌, ◌++◌, length, map, Contains}
use Rattle.std.specs.Prelude.{AllPairs, IsTrue, Some}
use Rattle.std.specs.FinMap as contents
use Rattle.std.specs.FinMap.{is_sorted}
use Rattle.epx_types.specs.declared.fault.Fault.{Fault}
use Rattle.epx_types.specs.declared.fault.Fault.TheVariants as fault
use Rattle.epx_types.specs.declared.id.Id.{Id}
use Rattle.epx_types.specs.Contents.{Contents}
use Rattle.epx_types.specs.Ids.{IsRising}
use Rattle.epx_types.specs.Keys.{key_cmp}
use Rattle.epx_lines.specs.Lines.{lines_of}
use Rattle.epx_report.specs.declared.base.BaseFault.{BaseFault}
use Rattle.epx_report.specs.declared.base.BaseFault.TheVariants.{Memory, Bad}
use Rattle.epx_report.specs.declared.from_value.BaseLine.{BaseLine}
use Rattle.epx_report.specs.declared.from_value.BaseLine.TheVariants as line
use Rattle.epx_report.specs.declared.from_value.Counts.{Counts}
use Rattle.epx_report.specs.BadLines.{IsFirstNotGood}
use Rattle.epx_report.specs.Forms.{base_line_of}

-- ---- the lines of a base

-- each line has one of the forms of a base's lines, and these are what the lines say, in order
abbrev pub Say : List (List ℕ) → List BaseLine → Type 0
Say lines said = map base_line_of lines ≡ map Some said

-- what the lines of each kind say: the header; the instances of the done lines, of the reply lines
-- and of the waiting lines; the keys and values of the store lines
pub record BaseParts : Type 0 where
  pub counts : Counts
  pub done : List Id
  pub replied : List Id
  pub waiting : List Id
  pub stored : List (List ℕ × ℤ)

-- the header, then the done lines, the reply lines, the waiting lines and the store lines
abbrev pub lines_in_order : BaseParts → List BaseLine
lines_in_order p =
    line.Header p.counts
    ∷ (map line.Done p.done
    ++ (map line.Reply p.replied
    ++ (map line.Waiting p.waiting ++ map (λ e. line.Store e.0 e.1) p.stored)))

-- no Id is twice in `done`, `replied` and `waiting` together, and `done` and `waiting` rise
pub record AreDistinctIds (done replied waiting : List Id) : Type 0 where
  pub done_rise : IsRising done
  pub replied_once : AllPairs (λ x y. x ≢ y) replied
  pub replied_new : (x : Id) → Contains replied x → ¬ Contains done x
  pub waiting_rise : IsRising waiting
  pub waiting_left : (x : Id) → Contains waiting x
      → (¬ Contains done x) × (¬ Contains replied x)

-- no two of the done, reply and waiting lines are of one instance; done, waiting and store lines
-- rise; there are as many reply and waiting lines as the header says
pub record AreBaseParts (p : BaseParts) : Type 0 where
  pub distinct : AreDistinctIds p.done p.replied p.waiting
  pub stored_rise : IsTrue (is_sorted key_cmp p.stored)
  pub replies_counted : length p.replied ≡ p.counts.executed
  pub waiting_counted : length p.waiting ≡ p.counts.waiting

-- ---- a base

-- `done` has the Ids of `before` and of `replied` together, each once, by rising Id
pub record AreDoneIn (before replied done : List Id) : Type 0 where
  pub rising : IsRising done
  pub each : (x : Id) → Contains done x ↔ Contains before x ⊎ Contains replied x

-- The lines of the bytes are those of a base, in order (`lines_in_order`, `AreBaseParts`). `done`
-- has the instances of its done and reply lines, and the entries of `stored` are its store lines
pub record IsBase (bytes : List ℕ) (done : List Id) (stored : Contents) : Type 0 where
  pub parts : BaseParts
  pub said : Say (lines_of bytes) (lines_in_order parts)
  pub are_parts : AreBaseParts parts
  pub are_done : AreDoneIn parts.done parts.replied done
  pub are_stored : contents.entries stored ≡ parts.stored

-- ---- a bad base

-- these come in the order of a base's lines (`lines_in_order`) and are as `AreBaseParts` says, so
-- that none is missing
abbrev pub AreWhole : List BaseLine → Type 0
AreWhole said = (p : BaseParts) × (said ≡ lines_in_order p) × AreBaseParts p

-- What the lines say can be continued to what all lines of a base say. The continuation need not be
-- text, so its numbers and keys have no limits
pub record BeginBase (lines : List (List ℕ)) : Type 0 where
  pub said : List BaseLine
  pub more : List BaseLine
  pub are_said : Say lines said
  pub whole : AreWhole (said ++ more)

-- the lines begin a base, but some are missing at the end; `line` is the number of the first one
pub record EndsEarly (lines : List (List ℕ)) (line : ℕ) : Type 0 where
  pub line_is : line ≡ length lines + 1
  pub begins : BeginBase lines
  pub not_whole : (said : List BaseLine) → Say lines said → ¬ AreWhole said

-- `line` is the number of the first line with which no base begins, or one more than the number of
-- lines if the text ends too early
abbrev pub IsBadBase : List ℕ → ℕ → Type 0
IsBadBase bytes line =
    IsFirstNotGood BeginBase (lines_of bytes) line ⊎ EndsEarly (lines_of bytes) line

-- the fault is a line at which the bytes are a bad base, or `Memory`, which says nothing about the
-- bytes
abbrev pub IsBaseFault : List ℕ → BaseFault → Type 0
IsBaseFault bytes Memory = Unit {0}
IsBaseFault bytes (Bad line) = IsBadBase bytes line

-- the fault that the program reports for a fault of a base: out of memory, or a bad base at this
-- line
abbrev pub fault_of : BaseFault → Fault
fault_of Memory = fault.Memory
fault_of (Bad line) = fault.BadBase line
