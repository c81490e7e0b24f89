use Rattle.std.proofs.Common.{◌≡◌, ◌≤◌, ◌+◌, ◌++◌, ◌∷◌, [], List, ℕ, sym, ap, subst, ◌∙◌, arith}
use Rattle.std.proofs.Common.{slice_range}
use Rattle.epx_types.proofs.Common.{without_deps, remaining_ids}
use Rattle.epx_graph.specs.inner.Remainder.{rest_of}
use Rattle.epx_graph.specs.inner.Nodes.{positions_of, missing_of, IsGatheredOf, first_of_piece}
use Rattle.epx_graph.proofs.GatherPieceLemmas.{IsGatheredOf-nil, IsGatheredOf-push}
use Rattle.epx_graph.proofs.RemainderLemmas.{IsRising-remaining_ids}
use Rattle.epx_graph.proofs.dependency_rows.gather_piece.Goals as goal

pub loop-index-init : goal.loop-index-init
loop-index-init c =
    let m = rest_of c.args.left.now in
    let first = first_of_piece c.args.pieces.size c.args.pieces.instances c.args.piece in
    subst (λ n. IsGatheredOf m (slice_range m first n) c.in_ok-rows.rows
    c.new-missing.result.items) (sym c.range-start.ensures.start)
    (IsGatheredOf-nil m first c.in_ok-rows.rows c.new-missing.result.items c.in_ok-rows.ensures
    c.new-missing.ensures.items)

pub loop-index-preserved : goal.loop-index-preserved
loop-index-preserved c =
    let m = rest_of c.args.left.now in
    let done = c.args.left.now.done in
    let e = c.entry_at.result.now in
    let deps = remaining_ids done e.deps in
    let rows = c.loop-index.rows in
    let missing = c.loop-index.missing.items in
    let first = first_of_piece c.args.pieces.size c.args.pieces.instances c.args.piece in
    let low : first ≤ c.loop-index.index =
    omega (arith, c.range-start.ensures.start, c.loop-index.auto.index) in
    let more = slice_range m first (c.loop-index.index + 1) in
    let rows_are : rows ++ positions_of m deps ∷ [] ≡ c.in_ok-rows-2.rows =
    ap (λ xs. rows ++ positions_of m (remaining_ids done xs) ∷ []) (sym c.deps.ensures.deps)
    ∙ sym c.in_ok-rows-2.ensures.rows in
    let missing_are : missing ++ missing_of m deps ≡ c.push_committed.new.missing.items =
    ap (λ ids. ids ++ missing_of m deps) (sym c.begin_run.ensures)
    ∙ ap (λ xs. c.begin_run.new.missing.items ++ missing_of m (remaining_ids done xs))
    (sym c.deps.ensures.deps)
    ∙ sym c.in_ok-rows-2.ensures.missing in
    subst (IsGatheredOf m more c.in_ok-rows-2.rows) missing_are
    (subst (λ (r : List (List ℕ)). IsGatheredOf m more r (missing ++ missing_of m deps)) rows_are
    (IsGatheredOf-push m first c.loop-index.index (without_deps done e) rows missing low
    c.entry_at.ensures (IsRising-remaining_ids done e.deps c.deps.ensures.fits.rising)
    c.loop-index.invariant))

pub returns : goal.returns
returns c =
    let m = rest_of c.args.left.now in
    let size = c.args.pieces.size in
    let piece = c.args.piece in
    let last : c.loop-index.index
    ≡ first_of_piece size c.args.pieces.instances (piece + 1) =
    omega (
      arith,
      c.loop-index-test.false,
      c.loop-index.auto.index-end,
      c.loop-index.auto.index,
      c.range-start.ensures.start,
      c.range-start.ensures.end,
    ) in
    let ends = last ∙ ap (λ n. first_of_piece size n (piece + 1)) c.requires in
    let begins = ap (λ n. first_of_piece size n piece) c.requires in
    subst (λ es. IsGatheredOf m es c.loop-index.rows c.loop-index.missing.items)
    (λ i. slice_range m (begins i) (ends i)) c.loop-index.invariant
