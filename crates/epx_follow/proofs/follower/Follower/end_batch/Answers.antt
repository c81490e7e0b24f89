use Rattle.std.proofs.Common.{◌≡◌, ◌≢◌, ◌⊎◌, ◌∙◌, ◌+◌, ◌++◌, List, ap, ap₂, arith, length, subst}
use Rattle.std.proofs.Common.{subst₂, sym, zip}
use Rattle.epx_types.proofs.Common.{ids_of}
use Rattle.epx_types.specs.declared.reply.Reply.{Reply}
use Rattle.epx_types.specs.declared.fault.Fault.TheVariants.{Memory}
use Rattle.epx_types.specs.declared.id.Id.{Id}
use Rattle.epx_types.specs.declared.place.Place.{Place}
use Rattle.epx_executor.specs.Commits.{AllWait, ExecutorView}
use Rattle.epx_follow.specs.BatchEnds.{EndsBatch, RefusesBatch, batch_text}
use Rattle.epx_follow.specs.Following.{FollowerView}
use Rattle.epx_follow.specs.CallPlaces.{at_lines, held_places}
use Rattle.epx_follow.specs.inner.FirstPlaces.{HasOtherPlaces, place_in}
use Rattle.epx_follow.specs.inner.HeldLines.{batch_lines, pending_lines}
use Rattle.epx_follow.proofs.BatchTextLemmas.{zip-parts}
use Rattle.epx_follow.proofs.EndLemmas.{EndsBatch-now, pending-is_few, pending-within, AreHeld-left}
use Rattle.epx_follow.proofs.EndLemmas.{RefusesBatch-from_fault}
use Rattle.epx_follow.proofs.OpenBatchLemmas.{IsHeld-begun, view_of-begun}
use Rattle.epx_follow.proofs.follower.Follower.end_batch.Given.{Over}
use Rattle.epx_follow.proofs.follower.Follower.end_batch.Goals.{In_ok-places}
use Rattle.epx_follow.proofs.follower.Follower.end_batch.Goals as goal

pub returns-in-Err : goal.returns-in-Err
returns-in-Err g c =
    let f = c.self.inside in
    subst (λ (v : FollowerView). RefusesBatch v c.fault_at_lines.result) c.self.view_is
    (RefusesBatch-from_fault f.executor.done f.executor.store (place_in f.held.places)
    f.executor.pending
    f.held.batch_places.items f.held.batch.items f.held.next f.held.is_open c.self.invariant.0
    c.self.invariant.1
    c.in-Err.fault c.fault_at_lines.result c.in-Err.ensures.refused
    (subst₂ (λ (e : ExecutorView) (ps : List Place). (c.fault_at_lines.result ≡ Memory)
    ⊎ (c.fault_at_lines.result ≡ at_lines (held_places (pending_lines (place_in f.held.places)
    e.pending)) ps c.in-Err.fault)) c.in-Err.ensures.unchanged c.deref-in-Err.ensures.value
    c.fault_at_lines.ensures))

pub count_came-came-requires-clause-few : goal.count_came-came-requires-clause-few
count_came-came-requires-clause-few g c =
    let few = pending-is_few c.self.inside.executor c.commit.new.self c.self.inside.held.batch.items
    c.in-Ok.executed.items c.in-Ok.ensures.ok in
    omega (arith, few, c.pending_len-waiting.ensures, c.len.ensures, c.in_ok-ids.ids.small)

pub count_came-came-requires-clause-some : goal.count_came-came-requires-clause-some
count_came-came-requires-clause-some g c =
    let f = c.self.inside in
    let some = pending-within f.executor.done f.executor.store (place_in f.held.places)
    f.executor.pending f.held.batch_places.items f.held.batch.items f.held.next f.held.is_open
    c.self.invariant.0 c.self.invariant.1 c.commit.new.self c.in-Ok.executed.items
    c.in_ok-ids.ids.items c.in_ok-ids.ensures.ids c.in-Ok.ensures.ok in
    omega (
      arith,
      some,
      c.pending_len-waited.ensures,
      c.pending_len-waiting.ensures,
      c.len.ensures,
    )

-- what waits is at its first places, if something waits
others : (g : Over) (c : In_ok-places g) → length c.commit.new.self.pending ≢ 0
    → HasOtherPlaces (place_in c.in_ok-places.places)
    (pending_lines (place_in c.self.inside.held.places) c.self.inside.executor.pending
    ++ batch_lines c.self.inside.held.batch_places.items c.self.inside.held.batch.items)
    c.in_ok-ids.ids.items
others g c some =
    let f = c.self.inside in
    let left = place_in c.in_ok-places.places in
    let waited = pending_lines (place_in f.held.places) f.executor.pending in
    let batch = f.held.batch.items in
    subst₂ (λ (ps : List Place) (ids : List Id).
    HasOtherPlaces left (waited ++ batch_lines ps batch) ids)
    c.deref-3.ensures.value c.deref-4.ensures.value (c.in_ok-places.ensures.others
    (λ none. some (sym c.pending_len-waiting.ensures ∙ none)) waited batch
    (c.deref-2.ensures.value ∙ c.in_ok-batch_ids.ensures ∙ ap ids_of c.deref.ensures.value)
    c.self.invariant.0.first_places)

pub invariant_of-result : goal.invariant_of-result
invariant_of-result g c =
    let f = c.self.inside in
    let now = c.commit.new.self in
    let left = place_in c.in_ok-places.places in
    let settled : AllWait now = c.commit_leaves_none_ready.ensures f.held.batch.items f.executor
    now c.in-Ok.executed.items c.in-Ok.ensures.ok in
    IsHeld-begun now c.in_ok-places.places f.held.next c.new-held.result c.new-held.ensures
    (AreHeld-left f.executor.done f.executor.store (place_in f.held.places) f.executor.pending
    f.held.batch_places.items f.held.batch.items f.held.next f.held.is_open c.self.invariant.0
    c.self.invariant.1 now c.in-Ok.executed.items c.in_ok-ids.ids.items
    c.in_ok-ids.ensures.ids c.in-Ok.ensures.ok left settled
    (λ none. c.in_ok-places.ensures.none (c.pending_len-waiting.ensures ∙ none))
    (others g (goal.at.invariant_of-result g c).In_ok-places))

pub returns : goal.returns
returns g c =
    let f = c.self.inside in
    let now = c.commit.new.self in
    let left = place_in c.in_ok-places.places in
    let executed = c.in-Ok.executed.items in
    let settled : AllWait now = c.commit_leaves_none_ready.ensures f.held.batch.items f.executor now
    executed c.in-Ok.ensures.ok in
    let pairs : zip c.deref-5.result.now c.deref-6.result.now ≡ executed =
    ap₂ (λ (xs : List Id) (rs : List Reply). zip xs rs)
    (c.deref-5.ensures.value ∙ c.in_ok-ids.ensures.ids)
    (c.deref-6.ensures.value ∙ c.in_ok-ids.ensures.replies) ∙ zip-parts executed in
    let came = c.count_came-came.result in
    let count : came + length f.executor.pending
    ≡ length c.in_ok-ids.ids.items + length now.pending =
    omega (
      arith,
      c.count_came-came.ensures,
      c.pending_len-waited.ensures,
      c.pending_len-waiting.ensures,
      c.len.ensures,
    ) in
    let text : c.in_ok-text.text.items ≡ batch_text came (length now.pending) executed =
    c.in_ok-text.ensures ∙ ap₂ (batch_text came) c.pending_len-waiting.ensures pairs in
    subst₂ (λ (v w : FollowerView). EndsBatch v w c.in_ok-text.text.items) c.self.view_is
    (sym (view_of-begun now c.in_ok-places.places f.held.next c.new-held.result
    c.new-held.ensures))
    (EndsBatch-now f.executor.done f.executor.store (place_in f.held.places) f.executor.pending
    f.held.batch_places.items f.held.batch.items f.held.next f.held.is_open c.self.invariant.0
    c.self.invariant.1
    now executed c.in_ok-ids.ids.items c.in_ok-ids.ensures.ids c.in-Ok.ensures.ok left settled
    (λ none. c.in_ok-places.ensures.none (c.pending_len-waiting.ensures ∙ none))
    (others g (goal.at.returns g c).In_ok-places) came c.in_ok-text.text.items count text)
