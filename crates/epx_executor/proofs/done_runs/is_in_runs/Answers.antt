use Rattle.std.proofs.Common.{◌+◌, ◌-◌, ◌/◌, get_or, sym, subst, ◌∙◌, arith}
use Rattle.epx_types.proofs.Common.{Below}
use Rattle.epx_types.specs.declared.id.Id.{Id}
use Rattle.epx_executor.specs.declared.done_runs.Run.{Run}
use Rattle.epx_executor.specs.Runs.{start_of, end_of}
use Rattle.epx_executor.proofs.RunLemmas.{Below-run_before, Below-run_after, Below-from_lt}
use Rattle.epx_executor.proofs.done_runs.is_in_runs.Goals as goal

pub loop-low-preserved-then-lt : goal.loop-low-preserved-then-lt
loop-low-preserved-then-lt c =
    let runs = c.args.runs.now in
    let middle = c.loop-low.low + (c.loop-low.high - c.loop-low.low) / 2 in
    let none : Run = record { replica = 0; first = 0; last = 0 } in
    let lower : Below c.args.id (start_of (get_or runs middle none)) =
    subst (Below c.args.id) c.first_id.ensures
    (Below-from_lt c.args.id c.first_id.result (sym c.lt.ensures ∙ c.if-lt.true)) in (
      omega (arith, c.loop-low.invariant.0),
      λ k d l there. (
        (c.loop-low.invariant.1 k d l there).0,
        Below-run_before runs c.requires middle none (omega (arith, c.loop-low.invariant.0))
            c.args.id
            k d l
            there lower,
      ),
    )

pub loop-low-preserved : goal.loop-low-preserved
loop-low-preserved c =
    let runs = c.args.runs.now in
    let middle = c.loop-low.low + (c.loop-low.high - c.loop-low.low) / 2 in
    let none : Run = record { replica = 0; first = 0; last = 0 } in
    let upper : Below (end_of (get_or runs middle none)) c.args.id =
    subst (λ (x : Id). Below x c.args.id) c.last_id.ensures
    (Below-from_lt c.last_id.result c.args.id (sym c.lt-else-lt.ensures ∙ c.if-lt-2.true)) in (
      c.loop-low.invariant.0,
      λ k d l there.
          let after =
          Below-run_after runs c.requires middle none (omega (arith, c.loop-low.invariant.0))
          c.args.id k d l there upper in
          (omega (arith, after), (c.loop-low.invariant.1 k d l there).1),
    )
