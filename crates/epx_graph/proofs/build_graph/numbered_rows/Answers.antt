use Rattle.std.proofs.Common.{◌≡◌, ◌++◌, ◌∷◌, [], ◌+◌, List, ℕ, All, AllPairs, length, sym, ap}
use Rattle.std.proofs.Common.{subst, ◌∙◌, arith}
use Rattle.epx_types.proofs.Common.{Below, IsCommitted, without_deps, remaining_ids}
use Rattle.epx_types.proofs.Common.{AllPairs-from_IsRising}
use Rattle.epx_types.specs.declared.id.Id.{Id}
use Rattle.epx_graph.specs.inner.Remainder.{rest_of}
use Rattle.epx_graph.specs.inner.Nodes.{positions_of, missing_of, ArePositionsOf, AreRowsOf}
use Rattle.epx_graph.proofs.MapNodeLemmas.{AreRowsOf-push}
use Rattle.epx_graph.proofs.RisingRowLemmas.{ArePositionsOf-append}
use Rattle.epx_graph.proofs.GatherRowLemmas.{length-row_within, StartsWithMissing-drop}
use Rattle.epx_graph.proofs.GatherRowLemmas.{AllPairs-missing_of}
use Rattle.epx_graph.proofs.GatherRowLemmas.{All-missing_of}
use Rattle.epx_graph.proofs.RemainderLemmas.{IsRising-remaining_ids}
use Rattle.epx_graph.proofs.build_graph.numbered_rows.Goals as goal

pub overflow_sub-lacks : goal.overflow_sub-lacks
overflow_sub-lacks c =
    let done = c.args.left.now.done in
    let short = length-row_within (rest_of c.args.left.now) c.args.gathered.now.rows
    c.args.gathered.now.missing.items c.requires.gathered c.loop-index.index
    (without_deps done c.entry_at.result.now) c.entry_at.ensures in
    omega (
      arith,
      short,
      ap length c.row-known.ensures,
      c.count_undone.ensures,
      ap (λ xs. length (remaining_ids done xs)) c.deps.ensures.deps,
    )

pub split_at-requires : goal.split_at-requires
split_at-requires c =
    let m = rest_of c.args.left.now in
    let e = without_deps c.args.left.now.done c.entry_at.result.now in
    let count : c.count_undone.result ≡ length e.deps =
    c.count_undone.ensures ∙ ap (λ xs. length (remaining_ids c.args.left.now.done xs))
    c.deps.ensures.deps in
    let these = StartsWithMissing-drop m c.args.gathered.now.rows c.args.gathered.now.missing.items
    c.requires.gathered c.loop-index.index e c.entry_at.ensures c.row-known.result.now
    c.count_undone.result c.loop-index.missing.now c.row-known.ensures count
    c.loop-index.invariant.missing in
    these.within

pub number_missing-requires-clause-rising : goal.number_missing-requires-clause-rising
number_missing-requires-clause-rising c =
    let m = rest_of c.args.left.now in
    let done = c.args.left.now.done in
    let e = without_deps done c.entry_at.result.now in
    let count : c.count_undone.result ≡ length e.deps =
    c.count_undone.ensures ∙ ap (λ xs. length (remaining_ids done xs)) c.deps.ensures.deps in
    let these = StartsWithMissing-drop m c.args.gathered.now.rows c.args.gathered.now.missing.items
    c.requires.gathered c.loop-index.index e c.entry_at.ensures c.row-known.result.now
    c.count_undone.result c.loop-index.missing.now c.row-known.ensures count
    c.loop-index.invariant.missing in
    subst (AllPairs Below) (sym (c.split_at.ensures.front ∙ these.these))
    (AllPairs-missing_of m e.deps
    (IsRising-remaining_ids done c.entry_at.result.now.deps c.deps.ensures.fits.rising))

pub number_missing-requires-clause-missing : goal.number_missing-requires-clause-missing
number_missing-requires-clause-missing c =
    let m = rest_of c.args.left.now in
    let e = without_deps c.args.left.now.done c.entry_at.result.now in
    let count : c.count_undone.result ≡ length e.deps =
    c.count_undone.ensures ∙ ap (λ xs. length (remaining_ids c.args.left.now.done xs))
    c.deps.ensures.deps in
    let these = StartsWithMissing-drop m c.args.gathered.now.rows c.args.gathered.now.missing.items
    c.requires.gathered c.loop-index.index e c.entry_at.ensures c.row-known.result.now
    c.count_undone.result c.loop-index.missing.now c.row-known.ensures count
    c.loop-index.invariant.missing in
    subst (All (λ x. ¬ IsCommitted m x)) (sym (c.split_at.ensures.front ∙ these.these))
    (All-missing_of m e.deps)

pub loop-index-preserved : goal.loop-index-preserved
loop-index-preserved c =
    let m = rest_of c.args.left.now in
    let done = c.args.left.now.done in
    let e = without_deps done c.entry_at.result.now in
    let count : c.count_undone.result ≡ length e.deps =
    c.count_undone.ensures ∙ ap (λ xs. length (remaining_ids done xs)) c.deps.ensures.deps in
    let these = StartsWithMissing-drop m c.args.gathered.now.rows c.args.gathered.now.missing.items
    c.requires.gathered c.loop-index.index e c.entry_at.ensures c.row-known.result.now
    c.count_undone.result c.loop-index.missing.now c.row-known.ensures count
    c.loop-index.invariant.missing in
    let ids = c.args.ids.now in
    let rows = c.loop-index.rows in
    let high = c.number_missing.new.row.items in
    let positions : ArePositionsOf ids (missing_of m e.deps) high =
    subst (λ (xs : List Id). ArePositionsOf ids xs high)
    (c.split_at.ensures.front ∙ these.these) c.in_ok-number_missing.ensures in
    let joined = ArePositionsOf-append m ids c.requires.nodes e.deps
    (AllPairs-from_IsRising e.deps
    (IsRising-remaining_ids done c.entry_at.result.now.deps c.deps.ensures.fits.rising)) high
    positions in
    let is : c.in_ok-rows-2.rows ≡ rows ++ (positions_of m e.deps ++ high) ∷ [] =
    c.in_ok-rows-2.ensures ∙ ap (λ r. rows ++ (c.row-known.result.now ++ r) ∷ [])
    c.deref.ensures.value ∙ ap (λ r. rows ++ (r ++ high) ∷ []) these.known in
    record {
      rows = subst (λ (r : List (List ℕ)). AreRowsOf m ids r (c.loop-index.index + 1)) (sym is)
          (AreRowsOf-push m ids rows c.loop-index.index e (positions_of m e.deps ++ high)
          c.entry_at.ensures joined c.loop-index.invariant.rows);
      missing = c.split_at.ensures.back ∙ these.later;
    }

pub returns : goal.returns
returns c =
    let whole : c.loop-index.index ≡ length (rest_of c.args.left.now) =
    omega (
      arith,
      c.loop-index-test.false,
      c.loop-index.auto.index-end,
      c.len-index-end.ensures.len,
    ) in
    subst (AreRowsOf (rest_of c.args.left.now) c.args.ids.now c.loop-index.rows) whole
    c.loop-index.invariant.rows
