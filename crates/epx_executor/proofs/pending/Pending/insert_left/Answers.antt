use Rattle.std.proofs.Common.{◌≡◌, ◌⊎◌, ◌↔◌, ◌+◌, Bool, true, not, List, [], ◌∷◌, ◌++◌, take}
use Rattle.std.proofs.Common.{Contains, sym, ap, ◌∙◌, subst, inl, inr, arith}
use Rattle.epx_types.proofs.Common.{is_among, Instance, is_among-cases}
use Rattle.epx_types.specs.declared.id.Id.{Id}
use Rattle.epx_executor.proofs.PendingLemmas.{AreInserted, Contains-all_inserted, AreInserted-done}
use Rattle.epx_executor.proofs.PendingLemmas.{AreInserted-next}
use Rattle.epx_executor.proofs.PendingLemmas.{Contains-none_found, Contains-noted}
use Rattle.epx_executor.proofs.PendingLemmas.{Contains-noted_push, Contains-one_found}
use Rattle.epx_executor.proofs.PendingLemmas.{AreInserted-there}
use Rattle.epx_executor.proofs.RemainderLemmas.{Contains-from_among, not-is_false, not-is_true}
use Rattle.epx_executor.proofs.pending.Pending.insert_left.Goals as goal
use Rattle.epx_executor.proofs.pending.Pending.insert_left.Goals.{then-is_left+then-is_none+in_ok-push+in_ok-copy+in_ok-insert}
use Rattle.epx_executor.proofs.pending.Pending.insert_left.Goals.{else-is_left}
use Rattle.epx_executor.proofs.pending.Pending.insert_left.Goals.{else-is_left-via-then-is_left+else-is_none}
use Rattle.epx_executor.proofs.pending.Pending.insert_left.Goals.{else-is_left-via-else-is_left}

pub returns-in_err-push-clause-noted : goal.returns-in_err-push-clause-noted
returns-in_err-push-clause-noted c =
    Contains-noted c.args.done.now c.args.self.now _ c.loop-entry.self c.push.new.self.items
    (subst (AreInserted c.args.done.now c.args.self.now _ c.loop-entry.self)
    (sym c.in_err-push.ensures.items) c.loop-entry.invariant)

pub returns-in_err-copy-clause-noted : goal.returns-in_err-copy-clause-noted
returns-in_err-copy-clause-noted c =
    let m = c.loop-entry.self in
    Contains-noted_push c.args.done.now c.args.self.now _ m c.loop-entry.inserted.items
    c.push.new.self.items c.id-then-is_none.result c.entry-item.result c.loop-entry.invariant
    c.in_ok-push.ensures.items c.id-then-is_none.ensures
    (Contains-none_found m c.id-then-is_left.result c.entry-item.result c.get.result
    c.is_none.result
    c.id-then-is_left.ensures c.is_none.ensures c.if-is_none.true c.get.ensures.found)

pub insert-requires : goal.insert-requires
insert-requires c =
    let m = c.loop-entry.self in
    let copy : c.in_ok-copy.field-0 ≡ c.entry-item.result = c.in_ok-copy.ensures in
    Contains-none_found m c.id-then-is_left.result c.in_ok-copy.field-0 c.get.result
    c.is_none.result
    (c.id-then-is_left.ensures ∙ ap (λ (e : Instance). e.id) (sym copy)) c.is_none.ensures
    c.if-is_none.true c.get.ensures.found

pub returns-in_err-insert-clause-noted : goal.returns-in_err-insert-clause-noted
returns-in_err-insert-clause-noted c =
    let m = c.loop-entry.self in
    subst (λ (l : List Instance). (e : Instance) → Contains c.args.self.now e
    ↔ (Contains l e × (¬ Contains c.push.new.self.items e.id)))
    (sym c.in_err-insert.ensures.unchanged)
    (Contains-noted_push c.args.done.now c.args.self.now _ m c.loop-entry.inserted.items
    c.push.new.self.items c.id-then-is_none.result c.entry-item.result c.loop-entry.invariant
    c.in_ok-push.ensures.items c.id-then-is_none.ensures
    (Contains-none_found m c.id-then-is_left.result c.entry-item.result c.get.result
    c.is_none.result
    c.id-then-is_left.ensures c.is_none.ensures c.if-is_none.true c.get.ensures.found))

not_done : (done : List Id) (r : Bool) (x y : Id) → r ≡ not (is_among done x) → r ≡ true → x ≡ y
    → ¬ Contains done y
not_done done r x y is left same there =
    elim (is_among-cases done x) [
      | inl found ↦ absurd (cc (found.0, not-is_true r (is_among done x) is left))
      | inr none ↦ absurd (none.1 (subst (Contains done) (sym same) there))
    ]

pub loop-entry-preserved : goal.loop-entry-preserved
loop-entry-preserved c =
    let done = c.args.done.now in
    let before = c.args.self.now in
    let es = c.args.entries.now in
    let m = c.loop-entry.self in
    let ids = c.loop-entry.inserted.items in
    let k = c.loop-entry.entry-index in
    let v = c.entry-item.result in
    elim c.if-is_left.branch [
      | then-is_left+then-is_none+in_ok-push+in_ok-copy+in_ok-insert w ↦
          let copy : w.in_ok-copy.field-0 ≡ v = w.in_ok-copy.ensures in
          let none = Contains-none_found m w.id-then-is_left.result v w.get.result w.is_none.result
          w.id-then-is_left.ensures w.is_none.ensures w.if-is_none.true w.get.ensures.found in
          subst (λ (l : List Instance). AreInserted done before (take (k + 1) es) l
          c.if-is_left.inserted.items) (sym w.self-is)
          (subst (AreInserted done before (take (k + 1) es) w.insert.new.self)
          (sym (ap (λ v. v.items) w.inserted-is ∙ w.in_ok-push.ensures.items
          ∙ ap (λ (x : Id). ids ++ x ∷ []) w.id-then-is_none.ensures))
          (AreInserted-next done before es m ids k v (omega arith) (sym c.entry-item.is)
          c.loop-entry.invariant w.insert.new.self
          (not_done done c.is_left.result c.id.result v.id c.is_left.ensures w.if-is_left.true
          c.id.ensures) none
          (subst (λ (u : Instance). (e : Instance) → Contains w.insert.new.self e
          ↔ (Contains m e ⊎ (e ≡ u))) copy w.in_ok-insert.ensures.inserted)))
      | else-is_left w ↦
          subst (λ (l : List Instance). AreInserted done before (take (k + 1) es) l
          c.if-is_left.inserted.items) (sym w.self-is)
          (subst (AreInserted done before (take (k + 1) es) m)
          (sym (ap (λ v. v.items) w.inserted-is)) (elim w.else-is_left.branch [
            | else-is_left-via-then-is_left+else-is_none w' ↦
                let f =
                Contains-one_found m w'.id-then-is_left.result v w'.get.result w'.is_none.result
                w'.id-then-is_left.ensures w'.is_none.ensures w'.if-is_none.false
                w'.get.ensures.found in
                AreInserted-there done before es m ids k v (omega arith) (sym c.entry-item.is)
                c.loop-entry.invariant f.0 c.requires.rising c.requires.alike f.1 f.2
            | else-is_left-via-else-is_left w' ↦
                AreInserted-done done before es m ids k v (omega arith) (sym c.entry-item.is)
                c.loop-entry.invariant (subst (Contains done) c.id.ensures
                (Contains-from_among done c.id.result (not-is_false c.is_left.result
                (is_among done c.id.result) c.is_left.ensures w'.if-is_left.false)))
          ]))
    ]

pub returns-clause-left : goal.returns-clause-left
returns-clause-left c =
    Contains-all_inserted c.args.done.now c.args.self.now c.args.entries.now c.loop-entry.self
    c.loop-entry.inserted.items c.loop-entry.entry-index (omega arith) c.loop-entry.invariant

pub returns-clause-noted : goal.returns-clause-noted
returns-clause-noted c =
    Contains-noted c.args.done.now c.args.self.now _ c.loop-entry.self c.loop-entry.inserted.items
    c.loop-entry.invariant
