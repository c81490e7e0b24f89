use Rattle.std.proofs.Common.{◌≡◌, ◌++◌, ◌∷◌, [], map, take, sym, ap, ◌∙◌}
use Rattle.epx_types.proofs.Common.{take_more, map_push, slice_get_within, get_or_from_slice_get}
use Rattle.epx_types.proofs.Common.{touched_keys, written_keys}
use Rattle.epx_audit.specs.inner.NodeConflicts.{KeyLists, keys_of}
use Rattle.epx_audit.proofs.conflicts.all_keys.Goals as goal

pub loop-position-preserved : goal.loop-position-preserved
loop-position-preserved c =
    let m = c.args.merged.now in
    let n = c.loop-position.position in
    let e = c.entry_at.result.now in
    let own : c.in_ok-of.field-0 ≡ keys_of e =
    c.in_ok-of.ensures ∙ ap (λ ops. let v : KeyLists =
    record { touched = touched_keys ops; written = written_keys ops } in v)
    c.ops.ensures.ops in
    let more = take_more m n e (slice_get_within m n e c.entry_at.ensures)
    ∙ ap (λ x. take n m ++ x ∷ []) (get_or_from_slice_get m n e e c.entry_at.ensures) in
    c.in_ok-push.ensures.items ∙ (λ i. c.loop-position.invariant i ++ own i ∷ [])
    ∙ sym (ap (map keys_of) more ∙ map_push keys_of (take n m) e)
