-- A list that is reported as lawful is lawful. If the logs are reported as covered, it executes as
-- the report says.
use Rattle.std.proofs.Common.{ℕ, List, Ok}
use Rattle.std.specs.FinMap as contents
use Rattle.epx_types.proofs.Common.{Instance, ranked_ids, IsLawful, IsExecutionOrder-IsLawful}
use Rattle.epx_types.proofs.Common.{final-lawful, reply-lawful}
use Rattle.epx_types.specs.declared.id.Id.{Id}
use Rattle.epx_merge.specs.Acceptance.{IsAccepted}
use Rattle.epx_report.specs.Lists.{IsList}
use Rattle.epx_report.specs.ViewLines.{lawful_line}
use Rattle.epx_tool.specs.CheckAnswers.{Checks}
use Rattle.epx_tool.specs.LawfulLists.{LawfulListExecutesAlike}
use Rattle.epx_tool.specs.Verdicts.{IsVerdict}
use Rattle.epx_tool.proofs.CheckLemmas.{verdict-of_logs}
use Rattle.epx_tool.proofs.CoveredTextLemmas.{IsCovered-if_reported}
use Rattle.epx_tool.proofs.VerdictLemmas.{lawful-from_verdict}

pub IsLawful-if_reported : (list : List ℕ) (logs : List (List ℕ)) (ids : List Id)
    (m : List Instance)
    → IsList list ids → IsAccepted logs m → Checks list logs (Ok lawful_line) → IsLawful m ids
IsLawful-if_reported list logs ids m is accepted said =
    lawful-from_verdict m ids
    (verdict-of_logs IsVerdict list ids is logs m accepted lawful_line said.1)

pub LawfulListExecutesAlike-holds : LawfulListExecutesAlike
LawfulListExecutesAlike-holds list logs said audited ids m is accepted order ordered =
    let covered = IsCovered-if_reported logs m accepted audited in
    let rising = accepted.committed.rising in
    let of_list = IsLawful-if_reported list logs ids m is accepted said in
    let of_order = IsExecutionOrder-IsLawful m order ordered in
    record {
      final = final-lawful m rising covered (ranked_ids order) ids of_order of_list contents.empty;
      replies = λ i j x at to. reply-lawful m rising covered (ranked_ids order) ids of_order
          of_list contents.empty j i x to at;
    }
