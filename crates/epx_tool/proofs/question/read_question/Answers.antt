use Rattle.std.proofs.Common.{subst, sym}
use Rattle.epx_names.specs.declared.task.Task.{Task}
use Rattle.epx_tool.specs.declared.question.MapQuestion.TheVariants.{Resume, Verify}
use Rattle.epx_tool.specs.inner.MapQuestions.{TaskAsks}
use Rattle.epx_tool.proofs.QuestionLemmas.{TaskAsks-resume}
use Rattle.epx_tool.proofs.question.read_question.Goals as goal

pub returns-in_ok-read_base_by-in-Resume : goal.returns-in_ok-read_base_by-in-Resume
returns-in_ok-read_base_by-in-Resume g c =
    let base = c.in_ok-read_base_by-in-Resume.field-0 in
    subst (λ (task : Task). TaskAsks task c.args.input.now (Resume base)) (sym c.in-Resume.is)
    (TaskAsks-resume c.args.input.now base c.in_ok-read_base_by-in-Resume.ensures.base)

pub returns-in_ok-read_said-in-Verify : goal.returns-in_ok-read_said-in-Verify
returns-in_ok-read_said-in-Verify g c =
    let said = c.in_ok-read_said-in-Verify.field-0 in
    let is = c.in_ok-read_said-in-Verify.ensures.said in
    subst (λ (task : Task). TaskAsks task c.args.input.now (Verify said)) (sym c.in-Verify.is)
    (record {
      of_map = λ same. cc same;
      text = λ m text h. (said.replies.items, said.store, is, h);
      finds = λ m text. (λ h. h, λ h. h);
    })
