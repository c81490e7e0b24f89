-- The text of a committed map that answers a task.
use Rattle.std.specs.Prelude.{ℕ, List}
use Rattle.epx_types.specs.Instances.{Instance}
use Rattle.epx_names.specs.declared.task.Task.{Task}
use Rattle.epx_names.specs.declared.task.Task.TheVariants.{Run, Order, Levels, Blockers, Graph}
use Rattle.epx_names.specs.declared.task.Task.TheVariants.{Around, Resume, Audit, AuditAll, Check}
use Rattle.epx_names.specs.declared.task.Task.TheVariants.{CheckPrefix, Compare, Replay, Verify}
use Rattle.epx_names.specs.declared.task.Task.TheVariants.{Linear, Why, Path, Trace}
use Rattle.epx_tool.specs.Report.{IsReport}
use Rattle.epx_views.specs.OrderText.{IsOrderText}
use Rattle.epx_views.specs.LevelText.{IsLevelText}
use Rattle.epx_blockers.specs.BlockerTexts.{IsBlockersText}
use Rattle.epx_tool.specs.AuditText.{IsAuditText}
use Rattle.epx_tool.specs.CheckAnswers.{IsCheckText, IsPrefixCheckText, IsReplayText}
use Rattle.epx_tool.specs.CheckAnswers.{IsHistoryCheckText, IsVerifyText}
use Rattle.epx_tool.specs.Resumption.{IsResumedText}
use Rattle.epx_neighbours.specs.UncoveredTexts.{IsUncoveredText}
use Rattle.epx_picture.specs.Pictures.{IsPicture}
use Rattle.epx_picture.specs.PicturesAround.{IsPictureAround}
use Rattle.epx_why.specs.WhyTexts.{IsWhyText, IsPathText}
use Rattle.epx_trace.specs.TraceTexts.{IsTraceText}

-- the text that an input and a committed map have for a task; most tasks have no input, and a
-- comparison has no text of a map
abbrev pub IsTaskText : Task → List ℕ → List Instance → List ℕ → Type 0
IsTaskText Run = λ input. IsReport
IsTaskText Order = λ input. IsOrderText
IsTaskText Levels = λ input. IsLevelText
IsTaskText Blockers = λ input. IsBlockersText
IsTaskText Graph = λ input. IsPicture
IsTaskText (Around x steps) = λ input m. IsPictureAround m x steps
IsTaskText Audit = λ input. IsAuditText
IsTaskText AuditAll = λ input. IsUncoveredText
IsTaskText Resume = IsResumedText
IsTaskText Check = IsCheckText
IsTaskText CheckPrefix = IsPrefixCheckText
IsTaskText Replay = IsReplayText
IsTaskText Verify = IsVerifyText
IsTaskText (Linear skew) = IsHistoryCheckText skew
IsTaskText Compare = λ input m text. ⊥
IsTaskText (Why x) = λ input m. IsWhyText m x
IsTaskText (Path x y) = λ input m. IsPathText m x y
IsTaskText (Trace key reads) = λ input m. IsTraceText m key.text.bytes reads
