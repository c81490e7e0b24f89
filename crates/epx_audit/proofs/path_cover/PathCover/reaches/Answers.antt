use Rattle.std.proofs.Common.{◌≡◌, ◌<◌, ◌≤◌, ◌+◌, ◌-◌, ℕ, List, Ok, Err, get_or, length, take}
use Rattle.std.proofs.Common.{drop, sym, subst, ap, ◌∙◌, arith, leb-true, le-leb, inl, inr}
use Rattle.std.proofs.Common.{lt_irrefl}
use Rattle.std.proofs.lemmas.List.Sorted.{searched}
use Rattle.epx_types.proofs.Common.{cases_lt, false≢true, get_or_read}
use Rattle.epx_graph.proofs.Common.{NodeReaches, edges_of}
use Rattle.epx_audit.specs.declared.path_cover.PathMember.{PathMember}
use Rattle.epx_audit.specs.inner.PathCovers.{lists_of, member_at}
use Rattle.epx_audit.proofs.PathCoverLemmas.{NodeReaches-by_found, NodeReaches-none_found}
use Rattle.epx_audit.proofs.PathCoverLemmas.{length-row, get_or-row_rising}
use Rattle.epx_audit.proofs.path_cover.PathCover.reaches.Goals as goal

-- the paths in the row of a member
paths_in : PathMember → List ℕ → List ℕ
paths_in m paths = take (m.row_end - m.row_start) (drop m.row_start paths)

pub returns-in-Ok : goal.returns-in-Ok
unfolding paths_in
returns-in-Ok c = λ g nodes is later_in earlier_in.
    let members = c.args.self.now.members.items in
    let p = c.args.later in
    let q = c.args.earlier in
    let none : PathMember = record { start = 0; path = 0; row_start = 0; row_end = 0 } in
    let p_in : p < length c.args.self.now.members.items = omega (arith, is.whole, later_in) in
    let q_in : q < length c.args.self.now.members.items = omega (arith, is.whole, earlier_in) in
    let from : c.index.result.now ≡ member_at members p =
    get_or_read members p c.index.result.now p_in c.index.ensures none in
    let to : c.index-2.result.now ≡ member_at members q =
    get_or_read members q c.index-2.result.now q_in c.index-2.ensures none in
    let xs = paths_in c.index.result.now c.deref.result.now in
    let row : xs ≡ paths_in (member_at members p) c.args.self.now.row_paths.items =
    ap (λ m. paths_in m c.deref.result.now) from
    ∙ ap (paths_in (member_at members p)) c.deref.ensures.value in
    let rises = get_or-row_rising (edges_of g) nodes (lists_of c.args.self.now) is.covered p p_in in
    let at = searched xs c.index-2.result.now.path (Ok c.in-Ok.index) c.in-Ok.ensures.position
    (subst (λ (ys : List ℕ). (i j : ℕ) → i ≤ j → j < length ys → get_or ys i 0 ≤ get_or ys j 0)
    (sym row) rises) in
    let i = c.in-Ok.index in
    let decides = NodeReaches-by_found (edges_of g) nodes (lists_of c.args.self.now) is.covered
    (λ x y x_in y_in same. is.once x y (omega (arith, is.whole, x_in))
    (omega (arith, is.whole, y_in)) same)
    p q i p_in q_in (subst (λ (ys : List ℕ). i < length ys) row at.0)
    (subst (λ (ys : List ℕ). get_or ys i 0 ≡ (member_at members q).path) row
    (at.1 ∙ ap (λ (m : PathMember). m.path) to)) in
    let row_in = is.covered.rows p p_in in
    let count = length-row (edges_of g) nodes (lists_of c.args.self.now) is.covered p p_in in
    let i_in : i < length (paths_in (member_at members p) c.args.self.now.row_paths.items) =
    subst (λ (ys : List ℕ). i < length ys) row at.0 in
    let within : c.index.result.now.row_start + i < length c.args.self.now.row_positions.items =
    omega (
      arith,
      is.covered.entries,
      row_in.0,
      row_in.1,
      count,
      i_in,
      ap (λ (m : PathMember). m.row_start) from,
    ) in
    let value : c.index-in-Ok.result.now
    ≡ get_or c.args.self.now.row_positions.items ((member_at members p).row_start + i) 0 =
    get_or_read c.args.self.now.row_positions.items (c.index.result.now.row_start + i)
    c.index-in-Ok.result.now within c.index-in-Ok.ensures 0
    ∙ ap (λ (m : PathMember).
    get_or c.args.self.now.row_positions.items (m.row_start + i) 0) from in
    let start = ap (λ (m : PathMember). m.start) to in (
      λ yes. decides.0 (omega (
        arith,
        leb-true c.index-2.result.now.start c.index-in-Ok.result.now yes,
        start,
        value,
      )),
      λ reach. le-leb c.index-2.result.now.start c.index-in-Ok.result.now
          (omega (arith, decides.1 reach, start, value)),
    )

pub returns-in-Err : goal.returns-in-Err
unfolding paths_in
returns-in-Err c = λ g nodes is later_in earlier_in.
    let members = c.args.self.now.members.items in
    let p = c.args.later in
    let q = c.args.earlier in
    let none : PathMember = record { start = 0; path = 0; row_start = 0; row_end = 0 } in
    let p_in : p < length c.args.self.now.members.items = omega (arith, is.whole, later_in) in
    let q_in : q < length c.args.self.now.members.items = omega (arith, is.whole, earlier_in) in
    let from : c.index.result.now ≡ member_at members p =
    get_or_read members p c.index.result.now p_in c.index.ensures none in
    let to : c.index-2.result.now ≡ member_at members q =
    get_or_read members q c.index-2.result.now q_in c.index-2.ensures none in
    let xs = paths_in c.index.result.now c.deref.result.now in
    let row : xs ≡ paths_in (member_at members p) c.args.self.now.row_paths.items =
    ap (λ m. paths_in m c.deref.result.now) from
    ∙ ap (paths_in (member_at members p)) c.deref.ensures.value in
    let rises = get_or-row_rising (edges_of g) nodes (lists_of c.args.self.now) is.covered p p_in in
    let at = searched xs c.index-2.result.now.path (Err c.in-Err.field-0) c.in-Err.ensures.position
    (subst (λ (ys : List ℕ). (i j : ℕ) → i ≤ j → j < length ys → get_or ys i 0 ≤ get_or ys j 0)
    (sym row) rises) in
    let n = c.in-Err.field-0 in
    let absent : ¬ NodeReaches (edges_of g) (get_or nodes p 0) (get_or nodes q 0) =
    NodeReaches-none_found (edges_of g) nodes (lists_of c.args.self.now) is.covered
    (λ x y x_in y_in same. is.once x y (omega (arith, is.whole, x_in))
    (omega (arith, is.whole, y_in)) same)
    p q p_in q_in (λ i below same.
    let i_in : i < length (paths_in c.index.result.now c.deref.result.now) =
    subst (λ (ys : List ℕ). i < length ys) (sym row) below in
    let here = ap (λ (ys : List ℕ). get_or ys i 0) row in
    let path = ap (λ (m : PathMember). m.path) to in
    elim (cases_lt i n) [
      | inl lower ↦ lt_irrefl (get_or (paths_in c.index.result.now c.deref.result.now) i 0)
          (omega (arith, at.1 i lower, here, path, same))
      | inr upper ↦ lt_irrefl (get_or (paths_in c.index.result.now c.deref.result.now) i 0)
          (omega (arith, at.2 i upper i_in, here, path, same))
    ]) in (λ no. absurd (false≢true no), λ reach. absurd (absent reach))
