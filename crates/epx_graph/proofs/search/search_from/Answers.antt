use Rattle.std.proofs.Common.{◌≡◌, ◌<◌, ◌+◌, ℕ, List, [], ◌∷◌, length, flat_map, sym, subst, subst₂}
use Rattle.std.proofs.Common.{arith}
use Rattle.epx_types.proofs.Common.{nat_tests, nil_from_length}
use Rattle.epx_rows.specs.between.Rows.{row_of}
use Rattle.epx_graph.specs.inner.Searches.{mark_by, SearchView, IsVisit, IsLevelSearch}
use Rattle.epx_graph.proofs.SearchLemmas.{IsLevelSearch-start, IsLevelSearch-next}
use Rattle.epx_graph.proofs.SearchLemmas.{IsSearchFrom-at_end}
use Rattle.epx_graph.proofs.search.search_from.Goals as goal

pub loop-kind-init : goal.loop-kind-init
loop-kind-init c =
    let rows = c.args.rows.now in
    let start = c.args.start in
    let marks = c.args.marks.now in
    let mark : ℕ → ℕ = mark_by c.args.kind start in
    let new : SearchView = record { marks = c.visit.new.marks; level = c.visit.new.next.items } in
    let visits : IsVisit (start ∷ []) (mark 0) (record { marks = marks; level = [] }) new =
    subst₂ (λ (m : ℕ) (l : List ℕ). IsVisit (start ∷ []) m (record { marks = marks; level = l })
    new) c.mark_after.ensures c.requires.level c.in_ok-visit.ensures in
    record {
      search = IsLevelSearch-start rows start mark marks c.requires.closed new visits;
      next = c.requires.next;
    }

pub loop-kind-preserved : goal.loop-kind-preserved
loop-kind-preserved c =
    let rows = c.args.rows.now in
    let start = c.args.start in
    let before = c.args.marks.now in
    let n = c.loop-kind.steps in
    let marks = c.loop-kind.marks in
    let mark : ℕ → ℕ = mark_by c.args.kind start in
    let old : SearchView = record { marks = marks; level = c.loop-kind.level.items } in
    let after = c.visit_level.new.marks in
    let new : SearchView = record { marks = after; level = c.visit_level.new.next.items } in
    let visits : IsVisit (flat_map (row_of rows) old.level) (mark (n + 1))
    (record { marks = marks; level = [] }) new = subst₂ (λ (xs : List ℕ) (m : ℕ). IsVisit
    (flat_map (row_of rows) xs) m (record { marks = marks; level = [] }) new)
    c.deref.ensures.value c.mark_after-in-loop-kind.ensures
    (subst (λ (l : List ℕ). IsVisit (flat_map (row_of rows) c.deref.result.now)
    c.mark_after-in-loop-kind.result (record { marks = marks; level = l }) new)
    c.loop-kind.invariant.next c.in_ok-visit_level.ensures) in
    let some : 0 < length old.level =
    grind (arith, nat_tests, c.is_empty.ensures, c.loop-kind-test.true) in
    let level : c.swap.new.x.items ≡ c.visit_level.new.next.items = rw c.swap.ensures.x_after in
    record {
      search = subst (λ (l : List ℕ). IsLevelSearch rows start mark before (n + 1)
          (record { marks = after; level = l })) (sym level)
          (IsLevelSearch-next rows start mark before c.requires.closed n old new
          c.loop-kind.invariant.search some visits);
      next = rw c.swap.ensures.y_after c.clear.ensures.items;
    }

pub returns-clause-marks : goal.returns-clause-marks
returns-clause-marks c =
    let items = c.loop-kind.level.items in
    let none : length items ≡ 0 =
    grind (arith, nat_tests, c.is_empty.ensures, c.loop-kind-test.false) in
    IsSearchFrom-at_end c.args.rows.now c.args.start (mark_by c.args.kind c.args.start)
    c.args.marks.now
    c.requires.closed c.loop-kind.steps (record { marks = c.loop-kind.marks; level = items })
    c.loop-kind.invariant.search (nil_from_length items none)
