use Rattle.std.proofs.Common.{◌≡◌, Contains, Some, slice_get, subst, rules}
use Rattle.epx_types.proofs.Common.{slice_get_within, get_or_from_slice_get}
use Rattle.epx_merge.specs.between.RedundantLines.{CachesAfter}
use Rattle.epx_merge.proofs.LineCacheLemmas.{CachesAfter-kept}
use Rattle.epx_merge.proofs.DropsCachedLemmas.{CachesSomeOf-line}
use Rattle.epx_merge.proofs.fresh_line.cache_copy.Goals as goal

pub returns : goal.returns
returns c =
    let lines = c.args.batch.now in
    let line = c.in-Some.line in
    let at : slice_get lines c.args.fresh.index ≡ Some line = search (rules, c.line.ensures) in
    let within = slice_get_within lines c.args.fresh.index line at in
    let is = get_or_from_slice_get lines c.args.fresh.index line line at in
    let among : Contains lines line = (c.args.fresh.index, within, is) in
    let cached : CachesAfter c.args.cache.now line.meaning c.insert_copy-kept.new.self =
    subst (λ m. CachesAfter c.args.cache.now m c.insert_copy-kept.new.self) c.bytes.ensures
    (CachesAfter-kept c.insert_copy-kept.result c.args.cache.now c.insert_copy-kept.new.self _
    c.insert_copy-kept.ensures) in
    CachesSomeOf-line lines line c.args.cache.now c.insert_copy-kept.new.self among cached
