-- An input and logs have exactly one answer to each task.
use Rattle.std.proofs.Common.{◌≡◌, ℕ, List}
use Rattle.epx_report.proofs.BaseLemmas.{BadBaseIsBadAtOneLine-holds}
use Rattle.epx_report.proofs.ListLemmas.{BadListIsBadAtOneLine-holds}
use Rattle.epx_names.specs.declared.task.Task.{Task}
use Rattle.epx_names.specs.declared.task.Task.TheVariants.{Resume, Check, CheckPrefix}
use Rattle.epx_names.specs.declared.task.Task.TheVariants.{Linear, Replay, Verify}
use Rattle.epx_answer_laws.specs.InputAnswerLaws.{InputAnswerExists, InputAnswerIsUnique}
use Rattle.epx_tool.specs.TaskAnswers.{IsBadInput}
use Rattle.epx_tool.specs.TaskTexts.{IsTaskText}
use Rattle.epx_tool.specs.Verdicts.{IsVerdict, IsPrefixVerdict}
use Rattle.epx_linear.proofs.HistoryLemmas.{BadHistoryIsBadAtOneLine-holds}
use Rattle.epx_verify.specs.VerifyLaws.{BadSaidIsBadAtOneLine, SaidIsNoBadSaid, SaidOrBadSaid}
use Rattle.epx_verify.specs.VerifyLaws.{TextSaysOneThing}
use Rattle.epx_picture.specs.PictureLaws.{PictureAroundExists}
use Rattle.epx_neighbours.specs.UncoveredTextLaws.{UncoveredTextExists, UncoveredTextIsUnique}
use Rattle.epx_answer_laws.proofs.AnswerLemmas.{AnswersLogs-exists}
use Rattle.epx_answer_laws.proofs.AnswerWithInputLemmas.{AnswersWithInput-exists}
use Rattle.epx_tool.proofs.CheckLemmas.{IsBadList-not_list, IsTextBy-or_bad}
use Rattle.epx_answer_laws.proofs.HistoryAnswerLemmas.{IsBadHistory-not_if_checked}
use Rattle.epx_answer_laws.proofs.HistoryAnswerLemmas.{IsHistoryCheckText-or_bad}
use Rattle.epx_answer_laws.proofs.ResumptionLemmas.{IsBadBase-not_if_resumed}
use Rattle.epx_answer_laws.proofs.ResumptionLemmas.{IsResumedText-or_bad_base}
use Rattle.epx_answer_laws.proofs.SaidAnswerLemmas.{IsReplayOf, IsBadSaid-not_if_verified}
use Rattle.epx_answer_laws.proofs.SaidAnswerLemmas.{IsReplayOf-exists}
use Rattle.epx_answer_laws.proofs.SaidAnswerLemmas.{IsVerifyText-or_bad_said}
use Rattle.epx_answer_laws.proofs.UniqueAnswerLemmas.{AnswersLogs-unique, IsTaskText-unique}
use Rattle.epx_answer_laws.proofs.UniqueAnswerWithInputLemmas.{AnswersWithInput-unique}
use Rattle.epx_tool.proofs.VerdictLemmas.{IsVerdict-exists, IsPrefixVerdict-exists}

-- what a replica says is read, or has a first bad line, by laws of `epx_verify`
pub InputAnswerExists-holds : SaidOrBadSaid → PictureAroundExists → UncoveredTextExists
    → InputAnswerExists
InputAnswerExists-holds read around pairs Resume base =
    AnswersWithInput-exists (IsBadInput Resume) (IsTaskText Resume) base
    (IsResumedText-or_bad_base base)
InputAnswerExists-holds read around pairs Check list =
    AnswersWithInput-exists (IsBadInput Check) (IsTaskText Check) list
    (IsTextBy-or_bad IsVerdict list IsVerdict-exists)
InputAnswerExists-holds read around pairs CheckPrefix list =
    AnswersWithInput-exists (IsBadInput CheckPrefix) (IsTaskText CheckPrefix) list
    (IsTextBy-or_bad IsPrefixVerdict list IsPrefixVerdict-exists)
InputAnswerExists-holds read around pairs Replay list =
    AnswersWithInput-exists (IsBadInput Replay) (IsTaskText Replay) list
    (IsTextBy-or_bad IsReplayOf list IsReplayOf-exists)
InputAnswerExists-holds read around pairs Verify said =
    AnswersWithInput-exists (IsBadInput Verify) (IsTaskText Verify) said
    (IsVerifyText-or_bad_said read said)
InputAnswerExists-holds read around pairs (Linear skew) history =
    AnswersWithInput-exists (IsBadInput (Linear skew)) (IsTaskText (Linear skew)) history
    (IsHistoryCheckText-or_bad skew history)
InputAnswerExists-holds read around pairs task input =
    AnswersLogs-exists around pairs task (λ none. none)

bad_at_one_line : BadSaidIsBadAtOneLine → (task : Task) (input : List ℕ) (line other : ℕ)
    → IsBadInput task input line → IsBadInput task input other → line ≡ other
bad_at_one_line line Resume = BadBaseIsBadAtOneLine-holds
bad_at_one_line line Verify = line
bad_at_one_line line (Linear skew) = BadHistoryIsBadAtOneLine-holds
bad_at_one_line line task = BadListIsBadAtOneLine-holds

pub InputAnswerIsUnique-holds : TextSaysOneThing → UncoveredTextIsUnique → SaidIsNoBadSaid
    → BadSaidIsBadAtOneLine → InputAnswerIsUnique
InputAnswerIsUnique-holds one pairs good line Resume base logs =
    AnswersWithInput-unique (IsBadInput Resume) base logs (bad_at_one_line line Resume base)
    (IsTaskText Resume) (IsTaskText-unique one pairs Resume base) (IsBadBase-not_if_resumed base)
InputAnswerIsUnique-holds one pairs good line Check list logs =
    AnswersWithInput-unique (IsBadInput Check) list logs (bad_at_one_line line Check list)
    (IsTaskText Check) (IsTaskText-unique one pairs Check list) (IsBadList-not_list IsVerdict list)
InputAnswerIsUnique-holds one pairs good line CheckPrefix list logs =
    AnswersWithInput-unique (IsBadInput CheckPrefix) list logs
    (bad_at_one_line line CheckPrefix list) (IsTaskText CheckPrefix)
    (IsTaskText-unique one pairs CheckPrefix list) (IsBadList-not_list IsPrefixVerdict list)
InputAnswerIsUnique-holds one pairs good line Replay list logs =
    AnswersWithInput-unique (IsBadInput Replay) list logs (bad_at_one_line line Replay list)
    (IsTaskText Replay) (IsTaskText-unique one pairs Replay list)
    (IsBadList-not_list IsReplayOf list)
InputAnswerIsUnique-holds one pairs good line Verify said logs =
    AnswersWithInput-unique (IsBadInput Verify) said logs (bad_at_one_line line Verify said)
    (IsTaskText Verify) (IsTaskText-unique one pairs Verify said)
    (IsBadSaid-not_if_verified good said)
InputAnswerIsUnique-holds one pairs good line (Linear skew) history logs =
    AnswersWithInput-unique (IsBadInput (Linear skew)) history logs
    (bad_at_one_line line (Linear skew) history) (IsTaskText (Linear skew))
    (IsTaskText-unique one pairs (Linear skew) history) (IsBadHistory-not_if_checked skew history)
InputAnswerIsUnique-holds one pairs good line task input logs =
    AnswersLogs-unique one pairs task logs
