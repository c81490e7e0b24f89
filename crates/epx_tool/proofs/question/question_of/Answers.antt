use Rattle.std.proofs.Common.{[], subst, sym}
use Rattle.epx_names.specs.declared.task.Task.{Task}
use Rattle.epx_tool.specs.declared.question.MapQuestion.TheVariants.{Report, Order, Levels, Graph}
use Rattle.epx_tool.specs.declared.question.MapQuestion.TheVariants.{Blockers, AuditAll, Around}
use Rattle.epx_tool.specs.declared.question.MapQuestion.TheVariants.{Trace}
use Rattle.epx_tool.specs.inner.MapQuestions.{TaskAsks}
use Rattle.epx_tool.proofs.question.question_of.Goals as goal

pub returns-in-Run-clause-some : goal.returns-in-Run-clause-some
returns-in-Run-clause-some c =
    subst (λ (task : Task). TaskAsks task [] Report) (sym c.in-Run.is) (record {
      of_map = λ same. cc same;
      text = λ m text h. h;
      finds = λ m text. (λ h. h, λ h. h);
    })

pub returns-in-Order-clause-some : goal.returns-in-Order-clause-some
returns-in-Order-clause-some c =
    subst (λ (task : Task). TaskAsks task [] Order) (sym c.in-Order.is) (record {
      of_map = λ same. cc same;
      text = λ m text h. h;
      finds = λ m text. (λ h. h, λ h. h);
    })

pub returns-in-Levels-clause-some : goal.returns-in-Levels-clause-some
returns-in-Levels-clause-some c =
    subst (λ (task : Task). TaskAsks task [] Levels) (sym c.in-Levels.is) (record {
      of_map = λ same. cc same;
      text = λ m text h. h;
      finds = λ m text. (λ h. h, λ h. h);
    })

pub returns-in-Blockers-clause-some : goal.returns-in-Blockers-clause-some
returns-in-Blockers-clause-some c =
    subst (λ (task : Task). TaskAsks task [] Blockers) (sym c.in-Blockers.is) (record {
      of_map = λ same. cc same;
      text = λ m text h. h;
      finds = λ m text. (λ h. h, λ h. h);
    })

pub returns-in-Graph-clause-some : goal.returns-in-Graph-clause-some
returns-in-Graph-clause-some c =
    subst (λ (task : Task). TaskAsks task [] Graph) (sym c.in-Graph.is) (record {
      of_map = λ same. cc same;
      text = λ m text h. h;
      finds = λ m text. (λ h. h, λ h. h);
    })

pub returns-in-AuditAll-clause-some : goal.returns-in-AuditAll-clause-some
returns-in-AuditAll-clause-some c =
    subst (λ (task : Task). TaskAsks task [] AuditAll) (sym c.in-AuditAll.is) (record {
      of_map = λ same. cc same;
      text = λ m text h. h;
      finds = λ m text. (λ h. h, λ h. h);
    })

pub returns-in-Around-clause-some : goal.returns-in-Around-clause-some
returns-in-Around-clause-some c =
    subst (λ (task : Task). TaskAsks task [] (Around c.in-Around.id c.in-Around.steps))
    (sym c.in-Around.is) (record {
      of_map = λ same. cc same;
      text = λ m text h. h;
      finds = λ m text. (λ h. h, λ h. h);
    })

pub returns-in-Trace-clause-some : goal.returns-in-Trace-clause-some
returns-in-Trace-clause-some c =
    subst (λ (task : Task). TaskAsks task [] (Trace c.in-Trace.key c.in-Trace.reads))
    (sym c.in-Trace.is) (record {
      of_map = λ same. cc same;
      text = λ m text h. h;
      finds = λ m text. (λ h. h, λ h. h);
    })
