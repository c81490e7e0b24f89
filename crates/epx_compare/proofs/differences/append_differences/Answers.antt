use Rattle.std.proofs.Common.{◌∙◌, ◌<◌, ◌++◌, length, get_or, take, ap, sym, arith}
use Rattle.epx_types.proofs.Common.{flat_map, take_more, take_all, flat_map_more, slice_get-get_or}
use Rattle.epx_types.specs.declared.id.Id.{Id}
use Rattle.epx_compare.specs.Comparisons.{difference_text}
use Rattle.epx_compare.proofs.differences.append_differences.Goals as goal

pub loop-position-preserved : goal.loop-position-preserved
loop-position-preserved c lines bad catalog =
    let zero : Id = record { replica = 0; number = 0 } in
    let ids = c.args.catalog.now.ids in
    let k = c.loop-position.position in
    let x = get_or ids k zero in
    let end = ap length c.ids-position-end.ensures.ids in
    let within : k < length ids = omega arith in
    let old = c.args.text.now.items in
    c.in_ok-append_difference.ensures lines bad x catalog (slice_get-get_or ids k zero within)
    ∙ (ap (λ t. t ++ difference_text lines x) (c.loop-position.invariant lines bad catalog)
    ∙ (flat_map_more (difference_text lines) old (take k ids) x
    ∙ ap (λ xs. old ++ flat_map (difference_text lines) xs) (sym (take_more ids k zero within))))

pub returns : goal.returns
returns c lines bad catalog =
    let ids = c.args.catalog.now.ids in
    let k = c.loop-position.position in
    let end = ap length c.ids-position-end.ensures.ids in
    let all = take_all k ids (omega arith) in
    c.loop-position.invariant lines bad catalog
    ∙ ap (λ xs. c.args.text.now.items ++ flat_map (difference_text lines) xs) all
