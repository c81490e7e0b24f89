use Rattle.std.proofs.Common.{◌⊎◌, ◌↔◌, ◌++◌, ◌∷◌, [], List, ◌∙◌, sym, subst, ap, All, Some, arith}
use Rattle.epx_types.proofs.Common.{All-push, All-pop, UpTo}
use Rattle.epx_types.specs.declared.id.Id.{Id}
use Rattle.epx_executor.specs.declared.done_runs.Run.{Run}
use Rattle.epx_executor.specs.Runs.{AreRuns, start_of, IsInRun, IsInRuns}
use Rattle.epx_executor.proofs.RunLemmas.{AreRuns-lengthened, IsInRuns-lengthened, AreRuns-after}
use Rattle.epx_executor.proofs.RunLemmas.{AreRuns-first}
use Rattle.epx_executor.proofs.done_runs.push_run.Goals as goal
use Rattle.epx_executor.proofs.done_runs.push_run.Goals.{in-Some+in_default-join+in_ok-push-2}
use Rattle.epx_executor.proofs.done_runs.push_run.Goals.{in_default}

pub returns-in-Some-join-clause-runs : goal.returns-in-Some-join-clause-runs
returns-in-Some-join-clause-runs c =
    subst AreRuns (sym c.in_ok-push.ensures.items)
    (AreRuns-lengthened c.args.runs.now.items c.pop.new.self.items c.in-Some.last
    c.in-Some.ensures.items c.requires.runs c.in-Some-join.joined c.in-Some-join.ensures.first
    c.in-Some-join.ensures.filled)

pub returns-in-Some-join-clause-after : goal.returns-in-Some-join-clause-after
returns-in-Some-join-clause-after c =
    let P : Run → Type 0 = λ r. UpTo (start_of r) (start_of c.args.run) in
    let old = All-pop P c.args.runs.now.items c.pop.new.self.items (Some c.in-Some.last)
    c.in-Some.ensures.items c.requires.after in
    subst (All P) (sym c.in_ok-push.ensures.items)
    (All-push P c.pop.new.self.items c.in-Some-join.joined old.0
    (subst (λ (x : Id). UpTo x (start_of c.args.run)) (sym c.in-Some-join.ensures.first) old.1))

pub returns-in-Some-join-clause-members : goal.returns-in-Some-join-clause-members
returns-in-Some-join-clause-members c = λ x.
    subst (λ (runs : List Run).
    IsInRuns runs x ↔ (IsInRuns c.args.runs.now.items x ⊎ IsInRun c.args.run x))
    (sym c.in_ok-push.ensures.items)
    (IsInRuns-lengthened c.args.runs.now.items c.pop.new.self.items c.in-Some.last c.args.run
    c.in-Some-join.joined c.in-Some.ensures.items c.in-Some-join.ensures.members x)

pub returns-clause-runs : goal.returns-clause-runs
returns-clause-runs c = subst AreRuns (sym c.in_ok-push-3.ensures.items) (elim c.match-pop.branch [
  | in-Some+in_default-join+in_ok-push-2 w ↦
      subst (λ (xs : List Run). AreRuns (xs ++ c.args.run ∷ []))
      (sym (ap (λ v. v.items) w.runs-is ∙ w.in_ok-push-2.ensures.items))
      (AreRuns-after c.args.runs.now.items c.pop.new.self.items w.in-Some.last
      w.in-Some.ensures.items c.requires.runs c.args.run w.in_default-join.ensures.apart
      c.requires.filled)
  | in_default w ↦
      subst (λ (xs : List Run). AreRuns (xs ++ c.args.run ∷ []))
      (sym (ap (λ v. v.items) w.runs-is))
      (AreRuns-first c.pop.new.self.items c.args.run
      (omega (arith, w.in_default.ensures.cases.1, c.pop.new.self.ok.0)) c.requires.filled)
])
