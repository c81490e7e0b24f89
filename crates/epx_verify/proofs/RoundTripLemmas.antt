-- The text of a replay, read again, has no difference.
use Rattle.std.proofs.Common.{zip, ap₂, ◌∙◌}
use Rattle.epx_verify.specs.ListExecutions.{list_execution, replay_text}
use Rattle.epx_verify.specs.Differences.{differences_text}
use Rattle.epx_verify.specs.VerifyLaws.{ReplayReadAgainIsRight}
use Rattle.epx_verify.proofs.SaidReadingLemmas.{TextSaysOneThing-holds}
use Rattle.epx_verify.proofs.WrittenSaidLemmas.{SaidTextIsSaid-holds}
use Rattle.epx_verify.proofs.DifferenceLemmas.{ReplayHasNoDifference-holds}

pub ReplayReadAgainIsRight-holds : ReplayReadAgainIsRight
ReplayReadAgainIsRight-holds m ids fits replies stored is =
    let e = list_execution m ids in
    let own = SaidTextIsSaid-holds (zip ids e.replies) e.final fits in
    let same =
    TextSaysOneThing-holds (replay_text m ids) replies (zip ids e.replies) stored e.final is
    own in
    ap₂ (differences_text m) same.0 same.1 ∙ ReplayHasNoDifference-holds m ids
