use Rattle.std.proofs.Common.{◌<◌, List, All, AllPairs, length, map, sym, subst}
use Rattle.std.proofs.Common.{subst₂, ap, ◌∙◌}
use Rattle.epx_audit.specs.between.RelatedPairs.{AreLaterFirst, AreRelatedMarks}
use Rattle.epx_types.specs.Keys.{KeyBelow}
use Rattle.epx_types.specs.declared.id.Id.{Id}
use Rattle.std.proofs.Common.{ℕ}
use Rattle.epx_types.proofs.Common.{ranked_ids, IfOk-weaker, length-map}
use Rattle.epx_neighbours.specs.declared.uncovered_row.UncoveredRow.{UncoveredRow}
use Rattle.epx_neighbours.specs.declared.neighbours.Neighbours.{Neighbours}
use Rattle.epx_neighbours.specs.inner.KeyTouches.{AreTouches}
use Rattle.epx_neighbours.specs.inner.UncoveredRows.{AreRows, HavePositionsWithin}
use Rattle.epx_neighbours.proofs.TouchLemmas.{AllPairs-keys_in}
use Rattle.epx_neighbours.proofs.UncoveredPairLemmas.{HavePositionsWithin-all, AreLaterFirst-all}
use Rattle.epx_neighbours.proofs.UncoveredPairLemmas.{rows-within_names, AreUncoveredPairs-all_rows}
use Rattle.epx_neighbours.proofs.uncovered.find_uncovered.Goals as goal

pub find_touches-requires : goal.find_touches-requires
find_touches-requires c =
    subst (AllPairs KeyBelow) (sym c.requires.keys)
    (AllPairs-keys_in (map (λ c. c.ops.now) c.args.commands.now))

pub related_pairs-requires-clause-pairs : goal.related_pairs-requires-clause-pairs
related_pairs-requires-clause-pairs c =
    let m = c.args.merged.now in
    let order = c.args.order.now in
    let commands = map (λ c. c.ops.now) c.args.commands.now in
    let keys = map (λ k. k.now) c.args.keys.now in
    let are = subst (AreTouches keys commands) (sym c.deref.ensures.value)
    c.in_ok-touches.ensures in
    subst (AreLaterFirst (length order))
    (sym (c.deref-3.ensures.value ∙ (c.in_ok-pairs.ensures
    ∙ ap (map (λ (x : Neighbours). (x.after, x.before))) c.deref-2.ensures.value)))
    (AreLaterFirst-all m order c.requires.order commands keys c.deref.result.now
    c.in_ok-found.found.items c.requires.commands c.requires.keys are c.in_ok-found.ensures)

pub rows_of-requires-clause-within : goal.rows_of-requires-clause-within
rows_of-requires-clause-within c =
    let m = c.args.merged.now in
    let order = c.args.order.now in
    let commands = map (λ c. c.ops.now) c.args.commands.now in
    let keys = map (λ k. k.now) c.args.keys.now in
    let are = subst (AreTouches keys commands) (sym c.deref.ensures.value)
    c.in_ok-touches.ensures in
    subst₂ (λ (ids : List Id) (found : List Neighbours). HavePositionsWithin (length ids) found)
    (sym c.ids.ensures) (sym c.deref-4.ensures.value)
    (HavePositionsWithin-all m order c.requires.order commands keys c.deref.result.now
    c.in_ok-found.found.items c.requires.commands c.requires.keys are c.in_ok-found.ensures)

pub returns-clause-within : goal.returns-clause-within
returns-clause-within c =
    let m = c.args.merged.now in
    let order = c.args.order.now in
    let commands = map (λ c. c.ops.now) c.args.commands.now in
    let keys = map (λ k. k.now) c.args.keys.now in
    let found = c.in_ok-found.found.items in
    let marks = c.in_ok-marks.marks.items in
    let are = subst (AreTouches keys commands) (sym c.deref.ensures.value)
    c.in_ok-touches.ensures in
    let related = subst (λ ps. AreRelatedMarks m order ps marks)
    (c.deref-3.ensures.value ∙ (c.in_ok-pairs.ensures
    ∙ ap (map (λ (x : Neighbours). (x.after, x.before))) c.deref-2.ensures.value))
    c.in_ok-marks.ensures in
    IfOk-weaker c.rows_of.result _ _
    (λ rows made. subst (λ (n : ℕ). All (λ (r : UncoveredRow). r.key < n) rows.items)
    (length-map c.args.keys.now (λ k. k.now))
    (rows-within_names m order c.requires.order commands keys c.deref.result.now found
    c.requires.commands c.requires.keys are c.in_ok-found.ensures marks rows.items related
    (subst₂ (λ fs ms. AreRows (ranked_ids order) fs ms rows.items) c.deref-4.ensures.value
    c.deref-5.ensures.value
    (subst (λ ids. AreRows ids c.deref-4.result.now c.deref-5.result.now rows.items) c.ids.ensures
    made))))
    c.rows_of.ensures

pub returns-clause-listed : goal.returns-clause-listed
returns-clause-listed c =
    let m = c.args.merged.now in
    let order = c.args.order.now in
    let commands = map (λ c. c.ops.now) c.args.commands.now in
    let keys = map (λ k. k.now) c.args.keys.now in
    let found = c.in_ok-found.found.items in
    let marks = c.in_ok-marks.marks.items in
    let are = subst (AreTouches keys commands) (sym c.deref.ensures.value)
    c.in_ok-touches.ensures in
    let related = subst (λ ps. AreRelatedMarks m order ps marks)
    (c.deref-3.ensures.value ∙ (c.in_ok-pairs.ensures
    ∙ ap (map (λ (x : Neighbours). (x.after, x.before))) c.deref-2.ensures.value))
    c.in_ok-marks.ensures in
    IfOk-weaker c.rows_of.result _ _
    (λ rows made. AreUncoveredPairs-all_rows m order c.requires.order commands keys
    c.deref.result.now found
    c.requires.commands c.requires.keys are c.in_ok-found.ensures marks rows.items related
    (subst₂ (λ fs ms. AreRows (ranked_ids order) fs ms rows.items) c.deref-4.ensures.value
    c.deref-5.ensures.value
    (subst (λ ids. AreRows ids c.deref-4.result.now c.deref-5.result.now rows.items) c.ids.ensures
    made)))
    c.rows_of.ensures
