-- A cover with one component more.
use Rattle.std.proofs.Common.{◌≡◌, inl, inr, ℕ, ◌<◌, ◌≤◌, List, Option, Some, None, length}
use Rattle.std.proofs.Common.{[], ◌++◌, take, drop, length-drop, append-nil, take_all}
use Rattle.epx_types.proofs.Common.{nil_from_length}
use Rattle.std.proofs.Common.{get_or, set, Contains, refl, sym, subst, subst₂, ap, ◌∙◌, arith}
use Rattle.epx_types.proofs.Common.{cases_eq, cases_lt, get_or-set_other, get_or-set_same}
use Rattle.epx_types.proofs.Common.{get_or_default, Contains-get_or}
use Rattle.epx_graph.proofs.Common.{NodeReaches}
use Rattle.epx_components.proofs.NodePathLemmas.{NodeReaches-edge, NodeReaches-itself}
use Rattle.epx_components.proofs.NodePathLemmas.{NodeReaches-trans}
use Rattle.epx_audit.specs.declared.path_cover.PathMember.{PathMember}
use Rattle.epx_audit.specs.inner.PathCovers.{AddsTo, AreCovered, AreJoined, ArePositions, AreTails}
use Rattle.epx_audit.specs.inner.PathCovers.{CoverLists, IsInRow, IsMemberEntry, IsNextComponent}
use Rattle.epx_audit.specs.inner.PathCovers.{IsEntryAt, IsNotedFrom, LeadBefore, RowHas}
use Rattle.epx_audit.specs.inner.PathCovers.{greatest_on}
use Rattle.epx_audit.specs.inner.PathCovers.{member_at}

-- what is known when the row of a component is merged and the component is added
pub record IsStep (edges : ℕ → List ℕ) (nodes : List ℕ) (old new : CoverLists) (end : ℕ)
    (empty greatest : List (Option ℕ)) (tails new_tails positions : List ℕ) (member : PathMember)
    (row : List (Option ℕ)) : Type 0 where
  pub covered : AreCovered edges nodes old
  pub next : IsNextComponent old new end greatest tails new_tails member row
  pub joined : AreJoined edges nodes (length old.members) end
  pub more : length old.members < end
  pub within : end ≤ length nodes
  pub placed : ArePositions nodes positions
  pub in_positions : (p t : ℕ) → p < end → Contains (edges (get_or nodes p 0)) t
      → t < length positions
  pub before : LeadBefore edges nodes old positions end end
  pub none : (path : ℕ) → greatest_on empty path ≡ None
  pub merged : AddsTo empty greatest (IsMemberEntry edges nodes old positions end)
  pub last : AreTails edges nodes old tails
  pub each_tail : length tails ≡ length nodes

some_same : (a b : ℕ) → Some a ≡ Some b → a ≡ b
some_same a b h = cc

-- what a slice of a whole vector was changed to is what the vector has
pub take-written : (xs ys : List ℕ) (n : ℕ) → length xs ≡ length ys → n ≡ length ys
    → take n (xs ++ drop (length xs) ys) ≡ xs
take-written xs ys n same all =
    let none : drop (length xs) ys ≡ [] =
    nil_from_length (drop (length xs) ys) (omega (arith, length-drop (length xs) ys)) in
    ap (λ zs. take n (xs ++ zs)) none ∙ (ap (take n) (append-nil xs)
    ∙ take_all n xs (omega arith))

none_some : (x : Option ℕ) (e : ℕ) → x ≡ None → x ≡ Some e → ⊥
none_some x e none some = cc

module _ (edges : ℕ → List ℕ) (nodes : List ℕ) (old new : CoverLists) (end : ℕ)
    (empty greatest : List (Option ℕ)) (tails new_tails positions : List ℕ) (member : PathMember)
    (row : List (Option ℕ))
    (s : IsStep edges nodes old new end empty greatest tails new_tails positions member row) where
  -- what was merged is reached from the first member
  merged_reached : (path e : ℕ) → greatest_on greatest path ≡ Some e → (e < length old.members)
      × ((member_at old.members e).path ≡ path)
      × NodeReaches edges (get_or nodes (length old.members) 0) (get_or nodes e 0)
  merged_reached path e noted = elim (s.merged.only path e noted) [
    | inl was ↦ absurd (none_some (greatest_on empty path) e (s.none path) was)
    | inr is ↦
        let p = is.0 in
        let targets = edges (get_or nodes p 0) in
        let i = is.3.0 in
        let t = get_or targets i 0 in
        let q = get_or positions t 0 in
        let entry = is.3.2 in
        let j = entry.1.0 in
        let edge : Contains targets t = Contains-get_or targets i 0 is.3.1 in
        let r = s.covered.reached q j entry.0 entry.1.1 in
        let node : get_or nodes q 0 ≡ t = s.placed t (s.in_positions p t is.2 edge)
        (omega (arith, s.before p i is.1 is.2 is.3.1, s.within)) in
        let at : get_or old.row_positions j 0 ≡ e = entry.1.3 in
        let to : NodeReaches edges (get_or nodes (length old.members) 0) (get_or nodes q 0) =
        NodeReaches-trans edges _ (get_or nodes p 0) _ (s.joined p is.1 is.2).0
        (subst (NodeReaches edges (get_or nodes p 0)) (sym node)
        (NodeReaches-edge edges _ t edge)) in (
          subst (λ x. x < length old.members) at r.0,
          subst (λ x. (member_at old.members x).path ≡ path) at (r.1 ∙ entry.1.2),
          NodeReaches-trans edges _ (get_or nodes q 0) _ to
              (subst (λ x. NodeReaches edges (get_or nodes q 0) (get_or nodes x 0)) at r.2),
        )
  ]

  old_at : (p : ℕ) → p < length old.members → member_at new.members p ≡ member_at old.members p
  old_at = s.next.before

  new_at : (p : ℕ) → length old.members ≤ p → p < length new.members
      → member_at new.members p ≡ member
  new_at p from below = s.next.members p from (omega (arith, s.next.whole, below))

  first_at : member_at new.members (length old.members) ≡ member
  first_at = s.next.members (length old.members) (omega arith) s.more

  -- the first member reaches the other members and is reached by them
  down : (p : ℕ) → length old.members ≤ p → p < length new.members
      → NodeReaches edges (get_or nodes (length old.members) 0) (get_or nodes p 0)
  down p from below = (s.joined p from (omega (arith, s.next.whole, below))).0

  up : (p : ℕ) → length old.members ≤ p → p < length new.members
      → NodeReaches edges (get_or nodes p 0) (get_or nodes (length old.members) 0)
  up p from below = (s.joined p from (omega (arith, s.next.whole, below))).1

  -- what is noted in the row is reached from the first member
  row_reached : (path e : ℕ) → greatest_on row path ≡ Some e → (e < length new.members)
      × ((member_at new.members e).path ≡ path)
      × NodeReaches edges (get_or nodes (length old.members) 0) (get_or nodes e 0)
  row_reached path e noted = elim (s.next.own.only path e noted) [
    | inl was ↦
        let r = merged_reached path e was in (
          omega (arith, r.0, s.more, s.next.whole),
          ap (λ (m : PathMember). m.path) (old_at e r.0) ∙ r.1,
          r.2,
        )
    | inr is ↦ (
      omega (arith, is.1, s.more, s.next.whole),
      ap (λ x. (member_at new.members x).path) is.1 ∙ (ap (λ (m : PathMember). m.path) first_at
          ∙ sym is.0),
      NodeReaches-itself edges _ _ (ap (λ x. get_or nodes x 0) (sym is.1)),
    )
  ]

  -- the path of the component begins at it, or its last position is reached
  path_number : member.path ≤ length old.members
  path_number = elim s.next.path [
    | inl first ↦ omega (arith, first)
    | inr noted ↦
        let r = merged_reached member.path (get_or tails member.path 0) noted in
        omega (arith, s.covered.numbers (get_or tails member.path 0) r.0, r.0, r.1)
  ]

  -- an earlier position on the path of the component is reached
  path_reached : (p : ℕ) → p < length old.members → (member_at old.members p).path ≡ member.path
      → NodeReaches edges (get_or nodes (length old.members) 0) (get_or nodes p 0)
  path_reached p below same = elim s.next.path [
    | inl first ↦ absurd (omega (arith, s.covered.numbers p below, same, first))
    | inr noted ↦
        let r = merged_reached member.path (get_or tails member.path 0) noted in
        let tail : NodeReaches edges (get_or nodes (get_or tails member.path 0) 0)
        (get_or nodes p 0) = subst (λ x. NodeReaches edges (get_or nodes (get_or tails x 0) 0)
        (get_or nodes p 0)) same (s.last p below) in
        NodeReaches-trans edges _ (get_or nodes (get_or tails member.path 0) 0) _ r.2 tail
  ]

  -- rows of earlier components are as before
  old_in_row : (p i : ℕ) → p < length old.members → IsInRow (member_at old.members p) i
      → i < length old.row_paths
  old_in_row p i below in_row = omega (arith, (s.covered.rows p below).1, in_row.1)

  row_kept : (p path d : ℕ) → p < length old.members
      → RowHas old (member_at old.members p) path d
      → RowHas new (member_at old.members p) path d
  row_kept p path d below has =
      let within = old_in_row p has.0 below has.1 in (
        has.0,
        has.1,
        s.next.old_paths has.0 within ∙ has.2,
        omega (arith, s.next.old_positions has.0 within, has.3),
      )

  row_was : (p path d : ℕ) → p < length old.members
      → RowHas new (member_at old.members p) path d
      → RowHas old (member_at old.members p) path d
  row_was p path d below has =
      let within = old_in_row p has.0 below has.1 in (
        has.0,
        has.1,
        sym (s.next.old_paths has.0 within) ∙ has.2,
        omega (arith, s.next.old_positions has.0 within, has.3),
      )

  -- the new row has what is noted
  row_noted : (path d : ℕ) → IsNotedFrom row path d → RowHas new member path d
  row_noted path d noted =
      let i = s.next.all path noted.0 noted.1 in
      let value = s.next.values i.0 i.1 i.2 in
      let same : get_or new.row_positions i.0 0 ≡ noted.0 =
      some_same _ _ (sym value ∙ (ap (greatest_on row) i.3 ∙ noted.1)) in (
        i.0,
        (omega (arith, s.next.row_start, i.1), omega (arith, s.next.row_end, i.2)),
        i.3,
        omega (arith, same, noted.2),
      )

  new_in_row : (i : ℕ) → IsInRow member i → (length old.row_paths ≤ i)
      × (i < length new.row_paths)
  new_in_row i in_row =
      (omega (arith, s.next.row_start, in_row.0), omega (arith, s.next.row_end, in_row.1))

  -- an entry of the new row is on its path and is reached
  new_reached : (p i : ℕ) → length old.members ≤ p → p < length new.members → IsInRow member i
      → (get_or new.row_positions i 0 < length new.members)
      × ((member_at new.members (get_or new.row_positions i 0)).path ≡ get_or new.row_paths i 0)
      × NodeReaches edges (get_or nodes p 0) (get_or nodes (get_or new.row_positions i 0) 0)
  new_reached p i from below in_row =
      let at = new_in_row i in_row in
      let r = row_reached _ _ (s.next.values i at.0 at.1) in (
        r.0,
        r.1,
        NodeReaches-trans edges _ (get_or nodes (length old.members) 0) _ (up p from below)
            r.2,
      )

  old_reached : (p i : ℕ) → p < length old.members → IsInRow (member_at old.members p) i
      → (get_or new.row_positions i 0 < length new.members)
      × ((member_at new.members (get_or new.row_positions i 0)).path ≡ get_or new.row_paths i 0)
      × NodeReaches edges (get_or nodes p 0) (get_or nodes (get_or new.row_positions i 0) 0)
  old_reached p i below in_row =
      let within = old_in_row p i below in_row in
      let r = s.covered.reached p i below in_row in
      let e = get_or old.row_positions i 0 in
      let P : ℕ → ℕ → Type 0 = λ x path. (x < length new.members)
      × ((member_at new.members x).path ≡ path)
      × NodeReaches edges (get_or nodes p 0) (get_or nodes x 0) in
      subst₂ P (sym (s.next.old_positions i within)) (sym (s.next.old_paths i within)) (
        omega (arith, r.0, s.more, s.next.whole),
        ap (λ (m : PathMember). m.path) (old_at e r.0) ∙ r.1,
        r.2,
      )

  -- the edges of a new member lead to what its row has
  new_closed : (p t : ℕ) → length old.members ≤ p → p < length new.members
      → Contains (edges (get_or nodes p 0)) t
      → (q : ℕ) × (q < length new.members) × (get_or nodes q 0 ≡ t)
      × ((path d : ℕ) → RowHas new (member_at new.members q) path d → RowHas new member path d)
  new_closed p t from below edge =
      let targets = edges (get_or nodes p 0) in
      let i = edge.0 in
      let ends : p < end = omega (arith, s.next.whole, below) in
      let at : get_or targets i 0 ≡ t = get_or_default targets i 0 t edge.1 ∙ edge.2 in
      let q = get_or positions t 0 in
      let q_in : q < end = subst (λ x. get_or positions x 0 < end) at
      (s.before p i from ends edge.1) in
      let node : get_or nodes q 0 ≡ t =
      s.placed t (s.in_positions p t ends edge) (omega (arith, q_in, s.within)) in (
        q,
        omega (arith, q_in, s.next.whole),
        node,
        λ path d has. elim (cases_lt q (length old.members)) [
          | inl earlier ↦
              let was = row_was q path d earlier
              (subst (λ m. RowHas new m path d) (old_at q earlier) has) in
              let e = get_or old.row_positions was.0 0 in
              let same : get_or positions (get_or targets i 0) 0 ≡ q =
              ap (λ x. get_or positions x 0) at in
              let entry : IsMemberEntry edges nodes old positions end path e = (
                p,
                from,
                ends,
                (
                  i,
                  edge.1,
                  subst (λ x. IsEntryAt old x path e) (sym same)
                      (earlier, (was.0, was.1, was.2, refl)),
                ),
              ) in
              let noted = s.next.own.keeps path e (s.merged.adds path e entry) in
              row_noted path d (noted.0, noted.1, omega (arith, was.3, noted.2))
          | inr own ↦ subst (λ m. RowHas new m path d)
              (new_at q own (omega (arith, q_in, s.next.whole))) has
        ],
      )

  -- the positions are covered with the component too
  pub AreCovered-next : AreCovered edges nodes new
  AreCovered-next = record {
    entries = s.next.entries;
    rows = λ p below. elim (cases_lt p (length old.members)) [
      | inl earlier ↦
          subst (λ (m : PathMember). (m.row_start ≤ m.row_end) × (m.row_end ≤ length new.row_paths))
          (sym (old_at p earlier)) (
            (s.covered.rows p earlier).0,
            omega (arith, (s.covered.rows p earlier).1, s.next.longer),
          )
      | inr own ↦
          subst (λ (m : PathMember). (m.row_start ≤ m.row_end) × (m.row_end ≤ length new.row_paths))
          (sym (new_at p own below)) (
            omega (arith, s.next.row_start, s.next.row_end, s.next.longer),
            omega (arith, s.next.row_end),
          )
    ];
    starts = λ p below. elim (cases_lt p (length old.members)) [
      | inl earlier ↦
          let is = s.covered.starts p earlier in
          let start = (member_at old.members p).start in
          subst (λ (m : PathMember). (m.start ≤ p)
          × NodeReaches edges (get_or nodes p 0) (get_or nodes m.start 0)
          × NodeReaches edges (get_or nodes m.start 0) (get_or nodes p 0)
          × ((member_at new.members m.start).path ≡ m.path)) (sym (old_at p earlier)) (
            is.0,
            is.1,
            is.2,
            ap (λ (m : PathMember). m.path) (old_at start (omega (arith, is.0))) ∙ is.3,
          )
      | inr own ↦
          let same = s.next.start in
          subst (λ (m : PathMember). (m.start ≤ p)
          × NodeReaches edges (get_or nodes p 0) (get_or nodes m.start 0)
          × NodeReaches edges (get_or nodes m.start 0) (get_or nodes p 0)
          × ((member_at new.members m.start).path ≡ m.path)) (sym (new_at p own below)) (
            omega (arith, same, own),
            subst (λ x. NodeReaches edges (get_or nodes p 0) (get_or nodes x 0)) (sym same)
                (up p own below),
            subst (λ x. NodeReaches edges (get_or nodes x 0) (get_or nodes p 0)) (sym same)
                (down p own below),
            ap (λ x. (member_at new.members x).path) same
                ∙ ap (λ (m : PathMember). m.path) first_at,
          )
    ];
    paths = λ p q order below same. elim (cases_lt q (length old.members)) [
      | inl earlier ↦
          let p_in : p < length old.members = omega (arith, order, earlier) in
          s.covered.paths p q order earlier (ap (λ (m : PathMember). m.path) (sym (old_at p p_in))
          ∙ (same ∙ ap (λ (m : PathMember). m.path) (old_at q earlier)))
      | inr own ↦ elim (cases_lt p (length old.members)) [
        | inl p_in ↦
            let on : (member_at old.members p).path ≡ member.path =
            ap (λ (m : PathMember). m.path) (sym (old_at p p_in))
            ∙ (same ∙ ap (λ (m : PathMember). m.path) (new_at q own below)) in
            NodeReaches-trans edges _ (get_or nodes (length old.members) 0) _ (up q own below)
            (path_reached p p_in on)
        | inr both ↦
            NodeReaches-trans edges _ (get_or nodes (length old.members) 0) _ (up q own below)
            (down p both (omega (arith, order, below)))
      ]
    ];
    numbers = λ p below. elim (cases_lt p (length old.members)) [
      | inl earlier ↦ omega (
        arith,
        ap (λ (m : PathMember). m.path) (old_at p earlier),
        s.covered.numbers p earlier,
      )
      | inr own ↦ omega (
        arith,
        ap (λ (m : PathMember). m.path) (new_at p own below),
        path_number,
        own,
      )
    ];
    reached = λ p i below in_row. elim (cases_lt p (length old.members)) [
      | inl earlier ↦
          old_reached p i earlier (subst (λ m. IsInRow m i) (old_at p earlier) in_row)
      | inr own ↦
          new_reached p i own below (subst (λ m. IsInRow m i) (new_at p own below) in_row)
    ];
    rising = λ p i j below in_i in_j order. elim (cases_lt p (length old.members)) [
      | inl earlier ↦
          let at_i = subst (λ m. IsInRow m i) (old_at p earlier) in_i in
          let at_j = subst (λ m. IsInRow m j) (old_at p earlier) in_j in
          omega (
            arith,
            s.next.old_paths i (old_in_row p i earlier at_i),
            s.next.old_paths j (old_in_row p j earlier at_j),
            s.covered.rising p i j earlier at_i at_j order,
          )
      | inr own ↦
          let at_i = new_in_row i (subst (λ m. IsInRow m i) (new_at p own below) in_i) in
          let at_j = new_in_row j (subst (λ m. IsInRow m j) (new_at p own below) in_j) in
          s.next.rising i j at_i.0 order at_j.1
    ];
    one = λ p i j below in_i in_j same. elim (cases_lt p (length old.members)) [
      | inl earlier ↦
          let at_i = subst (λ m. IsInRow m i) (old_at p earlier) in_i in
          let at_j = subst (λ m. IsInRow m j) (old_at p earlier) in_j in
          let i_in = old_in_row p i earlier at_i in
          let j_in = old_in_row p j earlier at_j in
          s.next.old_positions i i_in ∙ (s.covered.one p i j earlier at_i at_j
          (sym (s.next.old_paths i i_in) ∙ (same ∙ s.next.old_paths j j_in))
          ∙ sym (s.next.old_positions j j_in))
      | inr own ↦
          let at_i = new_in_row i (subst (λ m. IsInRow m i) (new_at p own below) in_i) in
          let at_j = new_in_row j (subst (λ m. IsInRow m j) (new_at p own below) in_j) in
          some_same _ _ (sym (s.next.values i at_i.0 at_i.1)
          ∙ (ap (greatest_on row) same ∙ s.next.values j at_j.0 at_j.1))
    ];
    own = λ p below. elim (cases_lt p (length old.members)) [
      | inl earlier ↦ subst (λ (m : PathMember). RowHas new m m.path m.start)
          (sym (old_at p earlier)) (row_kept p _ _ earlier (s.covered.own p earlier))
      | inr own ↦ subst (λ (m : PathMember). RowHas new m m.path m.start)
          (sym (new_at p own below)) (row_noted member.path member.start
          (subst (IsNotedFrom row member.path) (sym s.next.start)
          (s.next.own.adds member.path (length old.members) (refl, refl))))
    ];
    closed = λ p t below edge. elim (cases_lt p (length old.members)) [
      | inl earlier ↦
          let is = s.covered.closed p t earlier edge in (
            is.0,
            omega (arith, is.1, s.more, s.next.whole),
            is.2,
            λ path d has. subst (λ m. RowHas new m path d) (sym (old_at p earlier))
                (row_kept p path d earlier (is.3 path d (row_was is.0 path d is.1
                (subst (λ m. RowHas new m path d) (old_at is.0 is.1) has)))),
          )
      | inr own ↦
          let is = new_closed p t own below edge in (
            is.0,
            is.1,
            is.2,
            λ path d has. subst (λ m. RowHas new m path d) (sym (new_at p own below))
                (is.3 path d has),
          )
    ];
  }

  -- the component is the last of its path
  pub AreTails-next : AreTails edges nodes new new_tails
  AreTails-next p below =
      let path = (member_at new.members p).path in
      let Q : List ℕ → Type 0 = λ ts. NodeReaches edges (get_or nodes (get_or ts path 0) 0)
      (get_or nodes p 0) in
      let within : member.path < length tails =
      omega (arith, path_number, s.more, s.within, s.each_tail) in
      let here : get_or (set tails member.path (length old.members)) member.path 0
      ≡ length old.members = get_or-set_same tails member.path (length old.members) 0 within in
      subst Q (sym s.next.written) (elim (cases_lt p (length old.members)) [
        | inl earlier ↦
            let is = ap (λ (m : PathMember). m.path) (old_at p earlier) in
            elim (cases_eq path member.path) [
              | inl same ↦ subst (λ x. NodeReaches edges (get_or nodes x 0) (get_or nodes p 0))
                  (sym (ap (λ x. get_or (set tails member.path (length old.members)) x 0) same
                  ∙ here)) (path_reached p earlier (sym is ∙ same))
              | inr other ↦ subst (λ x. NodeReaches edges (get_or nodes x 0) (get_or nodes p 0))
                  (sym (get_or-set_other tails member.path path (length old.members) 0 other
                  ∙ ap (λ x. get_or tails x 0) is)) (s.last p earlier)
            ]
        | inr own ↦
            let same = ap (λ (m : PathMember). m.path) (new_at p own below) in
            subst (λ x. NodeReaches edges (get_or nodes x 0) (get_or nodes p 0))
            (sym (ap (λ x. get_or (set tails member.path (length old.members)) x 0) same ∙ here))
            (down p own below)
      ])
