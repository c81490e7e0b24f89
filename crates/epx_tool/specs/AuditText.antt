-- The text of an audit: whether a committed map is covered.
use Rattle.std.specs.Prelude.{◌≡◌, ◌⊎◌, ℕ, List}
use Rattle.epx_types.specs.declared.id.Id.{Id}
use Rattle.epx_types.specs.Instances.{Instance}
use Rattle.epx_types.specs.Conflicts.{IsCovered}
use Rattle.epx_report.specs.ViewLines.{covered_line, uncovered_line}
use Rattle.epx_audit.specs.Uncovered.{IsLeastUncovered}

-- the text is one line: `["covered"]` if the map is covered, or `["uncovered",r,i,r2,i2]` of the
-- least two ready instances that conflict, and of which neither reaches the other
abbrev pub IsAuditText : List Instance → List ℕ → Type 0
IsAuditText m text = (IsCovered m × (text ≡ covered_line))
    ⊎ ((x y : Id) × IsLeastUncovered m x y × (text ≡ uncovered_line x y))
