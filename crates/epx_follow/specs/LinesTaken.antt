-- What a follower does with a line.
use Rattle.std.specs.Prelude.{◌≡◌, ◌⊎◌, ℕ, Bool, true, false, List, [], Result, Ok, Err}
use Rattle.epx_types.specs.declared.fault.Fault.{Fault}
use Rattle.epx_types.specs.declared.fault.Fault.TheVariants.{Memory, BadLine}
use Rattle.epx_types.specs.declared.fault.Why.{Why}
use Rattle.epx_lines.specs.Meaning.{is_blank, meaning_of}
use Rattle.epx_lines.specs.declared.Line.{Line}
use Rattle.epx_lines.specs.declared.Line.TheVariants.{Blank, Entry}
use Rattle.epx_follow.specs.Following.{FollowerView, passed, joined}
use Rattle.epx_follow.specs.BatchEnds.{EndsBatch, RefusesBatch}

-- if true, the batch ends here (`EndsBatch`); if false, the follower stays as it is, and the text
-- is empty
abbrev pub EndsIf : Bool → FollowerView → FollowerView → List ℕ → Type 0
EndsIf true before after text = EndsBatch before after text
EndsIf false before after text = (after ≡ before) × (text ≡ [])

-- what taking a line does, by whether it is blank, and by its meaning. A blank line ends the batch;
-- one of an instance joins it, and one without an instance opens it; with `each` every line also
-- ends it. No bad line is taken
abbrev pub TakesAs : Bool → Bool → Result Line Why → FollowerView → FollowerView → List ℕ → Type 0
TakesAs each true m before after text = EndsBatch (passed before) after text
TakesAs each false (Ok Blank) before after text = EndsIf each (passed before) after text
TakesAs each false (Ok (Entry e)) before after text = EndsIf each (joined before e) after text
TakesAs each false (Err why) before after text = ⊥

-- taking this line leads from `before` to `after` and writes `text`: the text of the batch if the
-- line is blank or `each` is set, and no text otherwise. No bad line is taken
abbrev pub TakesLine : Bool → List ℕ → FollowerView → FollowerView → List ℕ → Type 0
TakesLine each line before after text =
    TakesAs each (is_blank line) (meaning_of line) before after text

-- if true, why the end of the batch is refused (`RefusesBatch`); if false no batch ends, and the
-- only fault is out of memory
abbrev pub RefusesIf : Bool → FollowerView → Fault → Type 0
RefusesIf true v fault = RefusesBatch v fault
RefusesIf false v fault = fault ≡ Memory

-- why a line with this meaning is refused: it is bad, or the batch that it ends is refused, or
-- memory runs out
abbrev pub RefusesAs : Bool → Bool → Result Line Why → FollowerView → Fault → Type 0
RefusesAs each true m v fault = RefusesBatch (passed v) fault
RefusesAs each false (Ok Blank) v fault = RefusesIf each (passed v) fault
RefusesAs each false (Ok (Entry e)) v fault = (fault ≡ Memory) ⊎ RefusesIf each (joined v e) fault
RefusesAs each false (Err why) v fault = (fault ≡ Memory) ⊎ (fault ≡ BadLine v.next why)

-- why a line is refused: it is bad, at this place and for this reason, or the batch that it ends is
-- refused. Out of memory says nothing about it
abbrev pub RefusesLine : Bool → List ℕ → FollowerView → Fault → Type 0
RefusesLine each line v fault = RefusesAs each (is_blank line) (meaning_of line) v fault
