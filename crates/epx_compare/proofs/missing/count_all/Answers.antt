use Rattle.std.proofs.Common.{◌≡◌, ◌∙◌, ℕ, ◌+◌, ◌<◌, ◌≤◌, ◌^◌, not, ◌&&◌, List, All, Some, take}
use Rattle.std.proofs.Common.{length, get_or, slice_get, sym, ap, subst, arith}
use Rattle.epx_types.proofs.Common.{list_any, length-take-le, count_by-le-length, slice_get-get_or}
use Rattle.epx_types.proofs.Common.{take-length, Instance, Placed}
use Rattle.epx_types.specs.declared.id.Id.{Id}
use Rattle.epx_rows.specs.between.Rows.{row_of}
use Rattle.epx_versions.specs.SameInstances.{same_id}
use Rattle.epx_compare.specs.MissingDeps.{depends_on}
use Rattle.epx_compare.specs.inner.MissingCounts.{AreCounts, with_one, is_missing, missing_count}
use Rattle.epx_compare.specs.inner.MissingCounts.{deps_at_numbers}
use Rattle.epx_compare.proofs.DependencyLemmas.{All-numbers_known, depends_on-by_numbers}
use Rattle.epx_compare.proofs.MissingCountLemmas.{AreCounts-agree, count_by-take_more}
use Rattle.epx_compare.proofs.missing.count_all.Goals as goal

pub count_instance-requires-clause-known : goal.count_instance-requires-clause-known
count_instance-requires-clause-known c =
    let keys : List Instance = c.args.catalog.now.noted.versions.keys in
    subst (λ (row : List ℕ). All (λ n. n < length keys) row) (sym c.row.ensures)
    (All-numbers_known c.requires.0 c.requires.1 c.args.catalog.now c.requires.2 c.loop-k.k)

small : (n done k len : ℕ) → n ≤ done → done ≡ k → k < len → len < 2 ^ 64 → n + 1 < 2 ^ 64
small n done k len few is within fits = omega arith

pub count_instance-requires-clause-room : goal.count_instance-requires-clause-room
count_instance-requires-clause-room c =
    let ids : List Id = c.args.catalog.now.ids in
    let lines : List Placed = c.requires.0 in
    let k = c.loop-k.k in
    let done : List Id = take k ids in
    let within : k < length ids =
    subst (λ (l : List Id). k < length l) c.ids-k-end.ensures.ids c.loop-k-test.true in
    let len : length done ≡ k = length-take-le k ids (omega arith) in (
      missing_count lines ids done,
      c.loop-k.invariant lines c.requires.1 c.requires.2,
      λ x. let few = count_by-le-length
          (λ y. not (list_any (same_id x) ids) && depends_on lines x y) done in
          small (missing_count lines ids done x) (length done) k (length c.ids-k-end.result.now) few
          len c.loop-k-test.true c.ids-k-end.type_inv.0,
    )

pub loop-k-preserved : goal.loop-k-preserved
loop-k-preserved c lines bad catalogs =
    let ids : List Id = c.args.catalog.now.ids in
    let keys : List Instance = c.args.catalog.now.noted.versions.keys in
    let k = c.loop-k.k in
    let zero : Id = record { replica = 0; number = 0 } in
    let y = get_or ids k zero in
    let within : k < length ids =
    subst (λ (l : List Id). k < length l) c.ids-k-end.ensures.ids c.loop-k-test.true in
    let here : slice_get ids k ≡ Some y = slice_get-get_or ids k zero within in
    let before : Id → ℕ = missing_count lines ids (take k ids) in
    let row : List ℕ = row_of c.args.catalog.now.versions k in
    let added = c.in_ok-count_instance.ensures before (c.loop-k.invariant lines bad catalogs) in
    let deps : List Id = deps_at_numbers keys row in
    let row_is : deps_at_numbers keys c.row.result.now ≡ deps =
    ap (deps_at_numbers keys) c.row.ensures in
    AreCounts-agree (with_one (is_missing ids (deps_at_numbers keys c.row.result.now)) before)
    (missing_count lines ids (take (k + 1) ids)) c.count_instance.new.counts.entries
    (λ x. let test : is_missing ids (deps_at_numbers keys c.row.result.now) x
    ≡ (not (list_any (same_id x) ids) && depends_on lines x y) =
    ap (λ ds. is_missing ids ds x) row_is ∙ ap (λ b. not (list_any (same_id x) ids) && b)
    (sym (depends_on-by_numbers lines bad c.args.catalog.now catalogs c.ids-k-end.ensures.rising k y
    here x)) in
    count_by-take_more (λ z. not (list_any (same_id x) ids) && depends_on lines x z) ids k y
    (is_missing ids (deps_at_numbers keys c.row.result.now) x) here test)
    added

pub returns : goal.returns
returns c lines bad catalogs =
    let ids : List Id = c.args.catalog.now.ids in
    let k = c.loop-k.k in
    let ends : k ≡ length c.ids-k-end.result.now = omega arith in
    let all : take k ids ≡ ids = ap (λ n. take n ids)
    (ends ∙ ap (λ (l : List Id). length l) c.ids-k-end.ensures.ids) ∙ take-length ids in
    subst (λ (done : List Id). AreCounts (missing_count lines ids done) c.loop-k.counts.entries) all
    (c.loop-k.invariant lines bad catalogs)
