-- Resuming from a base: the answer to a base and logs.
use Rattle.std.specs.Prelude.{ℕ, List, Result}
use Rattle.epx_types.specs.declared.id.Id.{Id}
use Rattle.epx_types.specs.declared.fault.Fault.{Fault}
use Rattle.epx_types.specs.Contents.{Contents}
use Rattle.epx_types.specs.Instances.{Instance}
use Rattle.epx_report.specs.Bases.{IsBase, IsBadBase}
use Rattle.epx_tool.specs.ResumedReport.{IsReportAfter}
use Rattle.epx_tool.specs.WithInput.{AnswersWithInput}

-- the report after the instances of the base are done, from the store of the base
abbrev pub IsResumedText : List ℕ → List Instance → List ℕ → Type 0
IsResumedText base m text = (done : List Id) × (stored : Contents) × IsBase base done stored
    × IsReportAfter done stored m text

-- the answer to a base and logs: the report that resumes from the base, or the first refusal
abbrev pub Resumes : List ℕ → List (List ℕ) → Result (List ℕ) Fault → Type 0
Resumes = AnswersWithInput IsBadBase IsResumedText
