use Rattle.std.proofs.Common.{◌≡◌, ◌∷◌, [], ◌++◌, ℕ, List, map, take, get_or, slice_get, sym, ap}
use Rattle.std.proofs.Common.{ap₂, ◌∙◌, Bor}
use Rattle.epx_types.proofs.Common.{map-append, take_more, slice_get-get_or, ops_or_empty, Instance}
use Rattle.epx_types.specs.declared.command.Command.{Command}
use Rattle.epx_types.specs.declared.id.Id.{Id}
use Rattle.epx_types.specs.declared.op.Op.{Op}
use Rattle.std.proofs.lemmas.Option.{slice_get_past}
use Rattle.epx_executor.proofs.execute_all.commands_at.Goals as goal
use Rattle.epx_executor.proofs.execute_all.commands_at.Goals.{in-Some, in-None}

pub loop-id-preserved : goal.loop-id-preserved
loop-id-preserved c =
    let entries = c.args.entries.now in
    let positions = c.args.positions.now in
    let k = c.loop-id.id-index in
    let none : Id × ℕ = (record { replica = 0; number = 0 }, 0) in
    let p = get_or positions k none in
    let ops = λ (q : Command). q.ops.now in
    let at = λ (q : Id × ℕ). ops_or_empty (slice_get entries q.1) in
    let here : c.match-get.ops.now ≡ at p = elim c.match-get.branch [
      | in-Some w ↦
          let e = w.in-Some.entry.now in
          let look = w.in-Some.ensures.lookup in
          ap (λ (o : Bor (List Op)). o.now) w.ops-is ∙ w.ops-ops.ensures.ops
          ∙ ap (λ (i : Instance). i.ops) look.1
          ∙ ap ops_or_empty (sym (slice_get-get_or entries p.1 e look.3.0))
      | in-None w ↦
          ap (λ (o : Bor (List Op)). o.now) w.ops-is
          ∙ ap ops_or_empty (sym (slice_get_past entries p.1 w.in-None.ensures.lookup.3))
    ] in
    ap (map ops) c.in_ok-push.ensures.items
    ∙ map-append ops c.loop-id.commands.items
    (record { id = p.0; ops = c.match-get.ops } ∷ [])
    ∙ ap₂ (λ (done : List (List Op)) (o : List Op). done ++ o ∷ []) c.loop-id.invariant here
    ∙ sym (map-append at (take k positions) (p ∷ []))
    ∙ ap (map at) (sym (take_more positions k none c.loop-id-test.true))
