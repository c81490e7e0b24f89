use Rattle.std.proofs.Common.{List, [], ◌∷◌, Bor, map, sym, ap, subst, ◌∙◌, arith}
use Rattle.epx_types.proofs.Common.{map-append, Instance}
use Rattle.epx_executor.proofs.PendingLemmas.{AreSome, AreSome-found, AreSome-missed, AreSome-all}
use Rattle.epx_executor.proofs.pending.Pending.some_entries.Goals as goal
use Rattle.epx_executor.proofs.pending.Pending.some_entries.Goals.{in-Some+in_ok-push, in_default}

abbrev entries_of : List (Bor Instance) → List Instance
entries_of es = map (λ (b : Bor Instance). b.now) es

pub loop-id-preserved : goal.loop-id-preserved
loop-id-preserved c =
    let before = c.loop-id.found.items in
    let ids = c.args.ids.now in
    let k = c.loop-id.id-index in
    elim c.match-get.branch [
      | in-Some+in_ok-push w ↦
          subst (AreSome c.args.self.now _) (sym (ap (λ v. entries_of v.items) w.found-is
          ∙ ap entries_of w.in_ok-push.ensures.items
          ∙ map-append (λ (b : Bor Instance). b.now) before (w.in-Some.entry ∷ [])))
          (AreSome-found c.args.self.now (entries_of before) ids k _ w.in-Some.entry.now
          (omega arith) c.loop-id.invariant w.in-Some.ensures.found.0 w.in-Some.ensures.only)
      | in_default w ↦
          subst (AreSome c.args.self.now _) (sym (ap (λ v. entries_of v.items) w.found-is))
          (AreSome-missed c.args.self.now (entries_of before) ids k _ (omega arith)
          c.loop-id.invariant w.in_default.ensures.found)
    ]

pub returns-clause-whole : goal.returns-clause-whole
returns-clause-whole c =
    (AreSome-all c.args.self.now _ c.args.ids.now c.loop-id.id-index (omega arith)
    c.loop-id.invariant).1
