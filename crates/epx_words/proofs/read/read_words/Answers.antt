use Rattle.std.proofs.Common.{◌≡◌, ◌∙◌, Some, ap, false, inl, inr, map, subst, sym}
use Rattle.epx_types.proofs.Common.{IfOk-weaker}
use Rattle.clap.specs.Words.{HasKind, fault_of, is_simple_and_free, kind_of, subcommand_of}
use Rattle.clap.specs.Words.{subcommand_rows_of, takes}
use Rattle.clap.proofs.WalkLemmas.{IfOk-both}
use Rattle.epx_words.specs.App.{epx_app}
use Rattle.epx_words.specs.ExitStatus.{IsExitStatus}
use Rattle.epx_words.specs.Requests.{ArePathsOf, FitsRows, task_name}
use Rattle.epx_words.specs.Subjects.{NamesAll}
use Rattle.epx_words.specs.SubcommandRows.{AsksForWork, IsCutOf, IsWorkersOf, name_in, rows_in}
use Rattle.epx_words.proofs.WorkLemmas.{subcommand_of-given, FitFlags-asked, IfWork-has_part}
use Rattle.epx_words.proofs.WorkLemmas.{IfFollow-asked, IsWork-iff_taken}
use Rattle.epx_words.proofs.WorkLemmas.{IsMeaningOf-epx_app, IfText-not_all_named, IfText-weaker}
use Rattle.epx_words.proofs.FaultLemmas.{is_simple_and_free-epx_app, AsksForWork-if_faultless}
use Rattle.epx_words.proofs.StatusLemmas.{IsWork-not_taken, IsExitStatus-of_kind, IfText-refused}
use Rattle.epx_words.proofs.read.read_words.Goals as goal

pub work_of-requires : goal.work_of-requires
work_of-requires c =
    let texts = map (λ w. w.now) c.args.words.now in
    let app_is = c.in_ok-command.ensures in
    let none = sym (ap (λ a. fault_of a texts) app_is)
    ∙ c.in-Ok.ensures.kinds (ap is_simple_and_free app_is ∙ is_simple_and_free-epx_app) in
    let rows = subcommand_of-given _ app_is texts (subcommand_rows_of c.in-Ok.matches)
    c.in-Ok.ensures.matches in
    subst AsksForWork (sym rows) (AsksForWork-if_faultless texts none)

pub returns-in_ok-work_of-in-Ok-clause-task : goal.returns-in_ok-work_of-in-Ok-clause-task
returns-in_ok-work_of-in-Ok-clause-task c bare =
    let texts = map (λ w. w.now) c.args.words.now in
    let given = subcommand_of epx_app texts in
    let means =
    IsMeaningOf-epx_app _ c.in_ok-command.ensures texts (subcommand_rows_of c.in-Ok.matches)
    c.in-Ok.ensures.matches c.in_ok-work_of-in-Ok.field-0 c.in_ok-work_of-in-Ok.ensures in
    IfWork-has_part given (λ t plan paths. name_in given ≡ Some (task_name t))
    (λ t plan paths asks. asks.task) c.in_ok-work_of-in-Ok.field-0 means

pub returns-in_ok-work_of-in-Ok-clause-workers : goal.returns-in_ok-work_of-in-Ok-clause-workers
returns-in_ok-work_of-in-Ok-clause-workers c bare =
    let texts = map (λ w. w.now) c.args.words.now in
    let given = subcommand_of epx_app texts in
    let means =
    IsMeaningOf-epx_app _ c.in_ok-command.ensures texts (subcommand_rows_of c.in-Ok.matches)
    c.in-Ok.ensures.matches c.in_ok-work_of-in-Ok.field-0 c.in_ok-work_of-in-Ok.ensures in
    IfWork-has_part given (λ t plan paths. IsWorkersOf (rows_in given) plan.workers)
    (λ t plan paths asks. asks.workers) c.in_ok-work_of-in-Ok.field-0 means

pub returns-in_ok-work_of-in-Ok-clause-cut : goal.returns-in_ok-work_of-in-Ok-clause-cut
returns-in_ok-work_of-in-Ok-clause-cut c bare =
    let texts = map (λ w. w.now) c.args.words.now in
    let given = subcommand_of epx_app texts in
    let means =
    IsMeaningOf-epx_app _ c.in_ok-command.ensures texts (subcommand_rows_of c.in-Ok.matches)
    c.in-Ok.ensures.matches c.in_ok-work_of-in-Ok.field-0 c.in_ok-work_of-in-Ok.ensures in
    IfWork-has_part given (λ t plan paths. IsCutOf (rows_in given) plan.cut)
    (λ t plan paths asks. asks.cut) c.in_ok-work_of-in-Ok.field-0 means

pub returns-in_ok-work_of-in-Ok-clause-paths : goal.returns-in_ok-work_of-in-Ok-clause-paths
returns-in_ok-work_of-in-Ok-clause-paths c bare =
    let texts = map (λ w. w.now) c.args.words.now in
    let given = subcommand_of epx_app texts in
    let means =
    IsMeaningOf-epx_app _ c.in_ok-command.ensures texts (subcommand_rows_of c.in-Ok.matches)
    c.in-Ok.ensures.matches c.in_ok-work_of-in-Ok.field-0 c.in_ok-work_of-in-Ok.ensures in
    IfWork-has_part given (λ t plan paths. ArePathsOf t (rows_in given) paths)
    (λ t plan paths asks. asks.paths) c.in_ok-work_of-in-Ok.field-0 means

pub returns-in_ok-work_of-in-Ok-clause-parts : goal.returns-in_ok-work_of-in-Ok-clause-parts
returns-in_ok-work_of-in-Ok-clause-parts c bare =
    let texts = map (λ w. w.now) c.args.words.now in
    let given = subcommand_of epx_app texts in
    let means =
    IsMeaningOf-epx_app _ c.in_ok-command.ensures texts (subcommand_rows_of c.in-Ok.matches)
    c.in-Ok.ensures.matches c.in_ok-work_of-in-Ok.field-0 c.in_ok-work_of-in-Ok.ensures in
    IfWork-has_part given (λ t plan paths. FitsRows t (rows_in given))
    (λ t plan paths asks. asks.parts) c.in_ok-work_of-in-Ok.field-0 means

pub returns-in_ok-work_of-in-Ok-clause-flags : goal.returns-in_ok-work_of-in-Ok-clause-flags
returns-in_ok-work_of-in-Ok-clause-flags c bare =
    let texts = map (λ w. w.now) c.args.words.now in
    let given = subcommand_of epx_app texts in
    let means =
    IsMeaningOf-epx_app _ c.in_ok-command.ensures texts (subcommand_rows_of c.in-Ok.matches)
    c.in-Ok.ensures.matches c.in_ok-work_of-in-Ok.field-0 c.in_ok-work_of-in-Ok.ensures in
    FitFlags-asked given c.in_ok-work_of-in-Ok.field-0 means

pub returns-in_ok-work_of-in-Ok-clause-followed : goal.returns-in_ok-work_of-in-Ok-clause-followed
returns-in_ok-work_of-in-Ok-clause-followed c bare =
    let texts = map (λ w. w.now) c.args.words.now in
    let given = subcommand_of epx_app texts in
    let means =
    IsMeaningOf-epx_app _ c.in_ok-command.ensures texts (subcommand_rows_of c.in-Ok.matches)
    c.in-Ok.ensures.matches c.in_ok-work_of-in-Ok.field-0 c.in_ok-work_of-in-Ok.ensures in
    IfFollow-asked given c.in_ok-work_of-in-Ok.field-0 means

pub returns-in_ok-work_of-in-Ok-clause-taken : goal.returns-in_ok-work_of-in-Ok-clause-taken
returns-in_ok-work_of-in-Ok-clause-taken c bare =
    let texts = map (λ w. w.now) c.args.words.now in
    let app_is = c.in_ok-command.ensures in
    let none = sym (ap (λ a. fault_of a texts) app_is)
    ∙ c.in-Ok.ensures.kinds (ap is_simple_and_free app_is ∙ is_simple_and_free-epx_app) in
    let given = subcommand_of epx_app texts in
    let means =
    IsMeaningOf-epx_app _ c.in_ok-command.ensures texts (subcommand_rows_of c.in-Ok.matches)
    c.in-Ok.ensures.matches c.in_ok-work_of-in-Ok.field-0 c.in_ok-work_of-in-Ok.ensures in
    IsWork-iff_taken (fault_of epx_app texts) given c.in_ok-work_of-in-Ok.field-0 none means

pub returns-in_ok-work_of-in-Ok-clause-refused : goal.returns-in_ok-work_of-in-Ok-clause-refused
returns-in_ok-work_of-in-Ok-clause-refused c bare =
    let texts = map (λ w. w.now) c.args.words.now in
    let given = subcommand_of epx_app texts in
    let means =
    IsMeaningOf-epx_app _ c.in_ok-command.ensures texts (subcommand_rows_of c.in-Ok.matches)
    c.in-Ok.ensures.matches c.in_ok-work_of-in-Ok.field-0 c.in_ok-work_of-in-Ok.ensures in
    IfText-weaker (λ status. (¬ NamesAll given) × (status ≡ 2)) _ c.in_ok-work_of-in-Ok.field-0
    (λ status h. inr h.0) (IfText-not_all_named given c.in_ok-work_of-in-Ok.field-0 means)

pub returns-in_ok-work_of-in-Ok-clause-status : goal.returns-in_ok-work_of-in-Ok-clause-status
returns-in_ok-work_of-in-Ok-clause-status c bare =
    let texts = map (λ w. w.now) c.args.words.now in
    let app_is = c.in_ok-command.ensures in
    let none = sym (ap (λ a. fault_of a texts) app_is)
    ∙ c.in-Ok.ensures.kinds (ap is_simple_and_free app_is ∙ is_simple_and_free-epx_app) in
    let given = subcommand_of epx_app texts in
    let means = IsMeaningOf-epx_app _ app_is texts (subcommand_rows_of c.in-Ok.matches)
    c.in-Ok.ensures.matches c.in_ok-work_of-in-Ok.field-0 c.in_ok-work_of-in-Ok.ensures in
    IfText-weaker (λ status. (¬ NamesAll given) × (status ≡ 2)) _ c.in_ok-work_of-in-Ok.field-0
    (λ status h. inr (none, h.0, h.1))
    (IfText-not_all_named given c.in_ok-work_of-in-Ok.field-0 means)

pub returns-in-Err-clause-taken : goal.returns-in-Err-clause-taken
returns-in-Err-clause-taken c bare =
    let texts = map (λ w. w.now) c.args.words.now in
    let kinds = fault_of epx_app texts in
    let has = subst (λ a. HasKind (fault_of a texts) c.in-Err.error) c.in_ok-command.ensures
    (c.in-Err.ensures.kinds
    (ap is_simple_and_free c.in_ok-command.ensures ∙ is_simple_and_free-epx_app)) in
    IfOk-weaker c.text_of.result _ _
    (λ asked h. IsWork-not_taken kinds (kind_of c.in-Err.error) h.0 has
    (subcommand_of epx_app texts)
    asked h.1)
    (IfOk-both c.text_of.result _ _ c.text_of.ensures.kind c.text_of.ensures.status)

pub returns-in-Err-clause-refused : goal.returns-in-Err-clause-refused
returns-in-Err-clause-refused c bare =
    let texts = map (λ w. w.now) c.args.words.now in
    IfOk-weaker c.text_of.result _ _
    (λ asked not_memory. IfText-weaker (λ status. takes epx_app texts ≡ false) _ asked
    (λ status refused. inl refused)
    (IfText-refused (kind_of c.in-Err.error) (takes epx_app texts) asked not_memory
    (λ taken. c.in-Err.ensures.passes
    (ap (λ a. takes a texts) c.in_ok-command.ensures ∙ taken))))
    c.text_of.ensures.kind

pub returns-in-Err-clause-status : goal.returns-in-Err-clause-status
returns-in-Err-clause-status c bare =
    let texts = map (λ w. w.now) c.args.words.now in
    let kinds = fault_of epx_app texts in
    let has = subst (λ a. HasKind (fault_of a texts) c.in-Err.error) c.in_ok-command.ensures
    (c.in-Err.ensures.kinds
    (ap is_simple_and_free c.in_ok-command.ensures ∙ is_simple_and_free-epx_app)) in
    IfOk-weaker c.text_of.result _ _
    (λ asked h. IfText-weaker (IsExitStatus kinds) _ asked (λ status is. inl is)
    (IsExitStatus-of_kind kinds (kind_of c.in-Err.error) h.0 has asked h.1))
    (IfOk-both c.text_of.result _ _ c.text_of.ensures.kind c.text_of.ensures.status)
