-- Laws of traces.
use Rattle.std.specs.Prelude.{◌≡◌, ℕ, ℤ, Bool, List, [], ◌∷◌, map, fold, Option}
use Rattle.std.specs.FinMap as contents
use Rattle.epx_types.specs.Ids.{IsRising}
use Rattle.epx_types.specs.Instances.{Instance}
use Rattle.epx_types.specs.CommittedMap.{ids_of}
use Rattle.epx_types.specs.Contents.{Contents}
use Rattle.epx_types.specs.Execution.{execute}
use Rattle.epx_trace.specs.declared.touch.Touch.{Touch}
use Rattle.epx_trace.specs.declared.touch.Touch.TheVariants.{Write, Read}
use Rattle.epx_trace.specs.Traces.{IdCommand, trace_of}
use Rattle.epx_trace.specs.TraceTexts.{IsTraceText}

-- for each map by rising Id and each key there is a text of the key's trace, with and without reads
abbrev pub TraceTextExists : Type 0
TraceTextExists = (m : List Instance) (key : List ℕ) (reads : Bool) → IsRising (ids_of m)
    → (text : List ℕ) × IsTraceText m key reads text

-- for each map and key there is at most one text of the key's trace with reads, and one without
abbrev pub TraceTextIsUnique : Type 0
TraceTextIsUnique = (m : List Instance) (key : List ℕ) (reads : Bool) (text other : List ℕ)
    → IsTraceText m key reads text → IsTraceText m key reads other → text ≡ other

-- the value that a touch finds
abbrev pub value_before : Touch → Option ℤ
value_before (Write x before after) = before
value_before (Read x value) = value

-- the value that a touch leaves where it finds this value
abbrev pub value_left : Option ℤ → Touch → Option ℤ
value_left value (Write x before after) = after
value_left value (Read x found) = value

-- each touch finds what the last write before it left, or this value where there is none
abbrev pub FindLastWrites : Option ℤ → List Touch → Type 0
FindLastWrites value [] = Unit {0}
FindLastWrites value (t ∷ ts) = (value_before t ≡ value) × FindLastWrites (value_left value t) ts

-- each touch of a trace finds what the last write before it left, or what the contents had before
-- all commands
abbrev pub TouchesFindLastWrites : Type 0
TouchesFindLastWrites = (commands : List IdCommand) (c : Contents) (k : List ℕ)
    → FindLastWrites (contents.get c k) (trace_of commands c k)

-- commands leave under the key what the last write of the trace left. Where it has no write, they
-- leave what was there
abbrev pub LastWriteIsStored : Type 0
LastWriteIsStored = (commands : List IdCommand) (c : Contents) (k : List ℕ)
    → contents.get (execute (map (λ p. p.1) commands) c).final k
    ≡ fold value_left (contents.get c k) (trace_of commands c k)
