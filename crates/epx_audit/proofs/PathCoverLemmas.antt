-- What a path cover says of who reaches whom.
use Rattle.std.proofs.Common.{◌≡◌, ◌↔◌, ℕ, ◌+◌, ◌-◌, ◌<◌, ◌≤◌, List, [], ◌∷◌, length, get_or}
use Rattle.std.proofs.Common.{Contains, take, drop, length-drop, refl, sym, ap, subst, ◌∙◌, arith}
use Rattle.epx_types.proofs.Common.{get_or-drop, get_or-take, length-take-le}
use Rattle.epx_graph.proofs.Common.{IsNodePath, NodeReaches}
use Rattle.epx_components.proofs.NodePathLemmas.{NodeReaches-trans}
use Rattle.epx_audit.specs.inner.PathCovers.{AreCovered, CoverLists, IsInRow, RowHas, member_at}

module _ (edges : ℕ → List ℕ) (nodes : List ℕ) (c : CoverLists)
    (is : AreCovered edges nodes c) where
  -- what a row has up to its entry on a path, is reached
  reached_down : (p q i : ℕ) → p < length c.members → q < length c.members
      → IsInRow (member_at c.members p) i
      → get_or c.row_paths i 0 ≡ (member_at c.members q).path
      → (member_at c.members q).start ≤ get_or c.row_positions i 0
      → NodeReaches edges (get_or nodes p 0) (get_or nodes q 0)
  reached_down p q i p_in q_in in_row on up =
      let to = is.reached p i p_in in_row in
      let from = is.starts q q_in in
      let e = get_or c.row_positions i 0 in
      let start = (member_at c.members q).start in
      let down : NodeReaches edges (get_or nodes e 0) (get_or nodes start 0) =
      is.paths start e up to.0 (from.3 ∙ (sym on ∙ sym to.1)) in
      NodeReaches-trans edges _ (get_or nodes e 0) _ to.2
      (NodeReaches-trans edges _ (get_or nodes start 0) _ down from.2)

  -- the paths of a row
  pub length-row : (p : ℕ) → p < length c.members
      → length (take ((member_at c.members p).row_end - (member_at c.members p).row_start)
      (drop (member_at c.members p).row_start c.row_paths))
      ≡ (member_at c.members p).row_end - (member_at c.members p).row_start
  length-row p p_in =
      let m = member_at c.members p in
      let rest = drop m.row_start c.row_paths in
      length-take-le (m.row_end - m.row_start) rest
      (omega (arith, length-drop m.row_start c.row_paths, (is.rows p p_in).1))

  pub get_or-row : (p i : ℕ) → p < length c.members
      → i < (member_at c.members p).row_end - (member_at c.members p).row_start
      → get_or (take ((member_at c.members p).row_end - (member_at c.members p).row_start)
      (drop (member_at c.members p).row_start c.row_paths)) i 0
      ≡ get_or c.row_paths ((member_at c.members p).row_start + i) 0
  get_or-row p i p_in below =
      let m = member_at c.members p in
      get_or-take (m.row_end - m.row_start) (drop m.row_start c.row_paths) i 0 below
      ∙ get_or-drop m.row_start c.row_paths i 0

  pub get_or-row_rising : (p : ℕ) → p < length c.members → (i j : ℕ) → i ≤ j
      → j < length (take ((member_at c.members p).row_end - (member_at c.members p).row_start)
      (drop (member_at c.members p).row_start c.row_paths))
      → get_or (take ((member_at c.members p).row_end - (member_at c.members p).row_start)
      (drop (member_at c.members p).row_start c.row_paths)) i 0
      ≤ get_or (take ((member_at c.members p).row_end - (member_at c.members p).row_start)
      (drop (member_at c.members p).row_start c.row_paths)) j 0
  get_or-row_rising p p_in i j order below =
      let m = member_at c.members p in
      let j_in : j < m.row_end - m.row_start = omega (arith, length-row p p_in, below) in
      let i_in : i < m.row_end - m.row_start = omega (arith, j_in, order) in
      let rises = is.rising p (m.row_start + i) (m.row_start + j) p_in
      (omega arith, omega (arith, i_in)) (omega arith, omega (arith, j_in))
      (omega (arith, order)) in
      omega (arith, get_or-row p i p_in i_in, get_or-row p j p_in j_in, rises)

  module _ (once : (p q : ℕ) → p < length c.members → q < length c.members
      → get_or nodes p 0 ≡ get_or nodes q 0 → p ≡ q) where
    -- a row has all that a path leads to
    row_has : (k j : ℕ) (cs : List ℕ) → IsNodePath edges k cs j → (p q : ℕ)
        → p < length c.members → q < length c.members → get_or nodes p 0 ≡ k
        → get_or nodes q 0 ≡ j
        → RowHas c (member_at c.members p) (member_at c.members q).path
        (member_at c.members q).start
    row_has k j [] path p q p_in q_in at_p at_q =
        let same : q ≡ p = once q p q_in p_in (at_q ∙ (sym path ∙ sym at_p)) in
        subst (λ r. RowHas c (member_at c.members r) (member_at c.members q).path
        (member_at c.members q).start) same (is.own q q_in)
    row_has k j (t ∷ cs) path p q p_in q_in at_p at_q =
        let edge : Contains (edges (get_or nodes p 0)) t =
        subst (λ x. Contains (edges x) t) (sym at_p) path.0 in
        let next = is.closed p t p_in edge in
        next.3 (member_at c.members q).path (member_at c.members q).start
        (row_has t j cs path.1 next.0 q next.1 q_in next.2 at_q)

    -- an entry of a row on the path of a position says whether that position is reached
    pub NodeReaches-by_entry : (p q i : ℕ) → p < length c.members → q < length c.members
        → IsInRow (member_at c.members p) i
        → get_or c.row_paths i 0 ≡ (member_at c.members q).path
        → ((member_at c.members q).start ≤ get_or c.row_positions i 0)
        ↔ NodeReaches edges (get_or nodes p 0) (get_or nodes q 0)
    NodeReaches-by_entry p q i p_in q_in in_row on = (
      λ up. reached_down p q i p_in q_in in_row on up,
      λ reach.
          let has = row_has _ _ reach.0 reach.1 p q p_in q_in refl refl in
          let same : get_or c.row_positions has.0 0 ≡ get_or c.row_positions i 0 =
          is.one p has.0 i p_in has.1 in_row (has.2 ∙ sym on) in
          omega (arith, same, has.3),
    )

    -- a row with no entry on the path of a position does not reach it
    pub NodeReaches-no_entry : (p q : ℕ) → p < length c.members → q < length c.members
        → ((i : ℕ) → IsInRow (member_at c.members p) i
        → ¬ (get_or c.row_paths i 0 ≡ (member_at c.members q).path))
        → ¬ NodeReaches edges (get_or nodes p 0) (get_or nodes q 0)
    NodeReaches-no_entry p q p_in q_in none reach =
        let has = row_has _ _ reach.0 reach.1 p q p_in q_in refl refl in
        none has.0 has.1 has.2

    -- the entry that a search of a row finds decides whether a position is reached
    pub NodeReaches-by_found : (p q i : ℕ) → p < length c.members → q < length c.members
        → i < length (take ((member_at c.members p).row_end - (member_at c.members p).row_start)
        (drop (member_at c.members p).row_start c.row_paths))
        → get_or (take ((member_at c.members p).row_end - (member_at c.members p).row_start)
        (drop (member_at c.members p).row_start c.row_paths)) i 0
        ≡ (member_at c.members q).path
        → ((member_at c.members q).start
        ≤ get_or c.row_positions ((member_at c.members p).row_start + i) 0)
        ↔ NodeReaches edges (get_or nodes p 0) (get_or nodes q 0)
    NodeReaches-by_found p q i p_in q_in below on =
        let m = member_at c.members p in
        let i_in : i < m.row_end - m.row_start = omega (arith, length-row p p_in, below) in
        NodeReaches-by_entry p q (m.row_start + i) p_in q_in (omega arith, omega (arith, i_in))
        (sym (get_or-row p i p_in i_in) ∙ on)

    -- a search of a row that finds no entry
    pub NodeReaches-none_found : (p q : ℕ) → p < length c.members → q < length c.members
        → ((i : ℕ)
        → i < length (take ((member_at c.members p).row_end - (member_at c.members p).row_start)
        (drop (member_at c.members p).row_start c.row_paths))
        → ¬ (get_or (take ((member_at c.members p).row_end - (member_at c.members p).row_start)
        (drop (member_at c.members p).row_start c.row_paths)) i 0
        ≡ (member_at c.members q).path))
        → ¬ NodeReaches edges (get_or nodes p 0) (get_or nodes q 0)
    NodeReaches-none_found p q p_in q_in none =
        let m = member_at c.members p in
        NodeReaches-no_entry p q p_in q_in (λ i in_row on.
        let k : ℕ = i - m.row_start in
        let k_in : k < m.row_end - m.row_start = omega (arith, in_row.0, in_row.1) in
        let same : m.row_start + k ≡ i = omega (arith, in_row.0) in
        none k (omega (arith, length-row p p_in, k_in))
        (get_or-row p k p_in k_in ∙ (ap (λ n. get_or c.row_paths n 0) same ∙ on)))
