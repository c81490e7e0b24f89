-- One more instance of a list.
use Rattle.std.proofs.Common.{◌≡◌, ℕ, ◌+◌, ◌<◌, inl, inr, List, [], ◌∷◌, ◌++◌, Bool, true, false}
use Rattle.std.proofs.Common.{get_or, set, slice_get, Some, sym, subst, ◌∙◌, ap, arith, IsTrue}
use Rattle.epx_types.proofs.Common.{cases_eq, cases_lt, length_push, length-set, get_or_push}
use Rattle.epx_types.proofs.Common.{get_or_append_left, get_or-set_same, get_or-set_other}
use Rattle.epx_types.proofs.Common.{slice_get_within, slice_get-get_or, Instance, IsReady}
use Rattle.epx_types.specs.declared.id.Id.{Id}
use Rattle.epx_graph.proofs.Common.{DependencyGraph, IsGraph, ids-is_unique}
use Rattle.epx_ranking.specs.inner.NodeLists.{AreListed}
use Rattle.epx_ranking.specs.OrderFaults.{ReadyOnce}
use Rattle.epx_components.specs.between.ReadyMarks.{is_marked}

module _ (g : DependencyGraph) (is : IsGraph g) (ids : List Id) (n : ℕ) (nodes : List ℕ)
    (marks : List Bool) (old : AreListed g ids n nodes marks) (x : Id)
    (at : slice_get ids n ≡ Some x) (k : ℕ) (to : slice_get g.ids k ≡ Some x) where
  -- its node is marked exactly if it is listed at an earlier position
  pub slice_get-from_mark : IsTrue (is_marked marks k)
      → (i : ℕ) × (i < n) × (slice_get ids i ≡ Some x)
  slice_get-from_mark h =
      let i = (old.marked k).0 h in
      let l = slice_get_within ids n x at in
      let there = slice_get-get_or ids i.0 x (omega (arith, i.1)) in
      let node = old.each i.0 (get_or ids i.0 x) i.1 there in
      let same : Some x ≡ Some (get_or ids i.0 x) =
      sym to ∙ ap (slice_get g.ids) (sym i.2) ∙ node in
      (i.0, i.1, there ∙ sym same)

  pub is_marked-from_earlier : (i : ℕ) → i < n → slice_get ids i ≡ Some x
      → IsTrue (is_marked marks k)
  is_marked-from_earlier i l there =
      (old.marked k).1 (i, l, ids-is_unique g is (get_or nodes i 0) k x (old.each i x l there) to)

  pub AreListed-step : AreListed g ids (n + 1) (nodes ++ k ∷ []) (set marks k true)
  AreListed-step = record {
    whole = omega (arith, length_push nodes k, old.whole);
    each = λ i y l there. elim (cases_lt i n) [
      | inl past ↦ ap (slice_get g.ids) (kept i past) ∙ old.each i y past there
      | inr now ↦
          let same : i ≡ n = omega arith in
          let one : Some x ≡ Some y = sym at ∙ ap (slice_get ids) (sym same) ∙ there in
          ap (slice_get g.ids) (ap (λ j. get_or (nodes ++ k ∷ []) j 0) same ∙ last) ∙ to ∙ one
    ];
    marks_whole = length-set marks k true ∙ old.marks_whole;
    marked = λ j. (forth j, back j);
  } where
    kept : (i : ℕ) → i < n → get_or (nodes ++ k ∷ []) i 0 ≡ get_or nodes i 0
    kept i l = get_or_append_left nodes (k ∷ []) 0 i (omega (arith, old.whole))

    last : get_or (nodes ++ k ∷ []) n 0 ≡ k
    last = get_or_push nodes k 0 n old.whole

    here : is_marked (set marks k true) k ≡ true
    here = get_or-set_same marks k true false
        (omega (arith, old.marks_whole, slice_get_within g.ids k x to))

    forth : (j : ℕ) → IsTrue (is_marked (set marks k true) j)
        → (i : ℕ) × (i < n + 1) × (get_or (nodes ++ k ∷ []) i 0 ≡ j)
    forth j h = elim (cases_eq j k) [
      | inl same ↦ (n, omega arith, last ∙ sym same)
      | inr other ↦
          let was = (old.marked j).0 (sym (get_or-set_other marks k j true false other) ∙ h) in
          (was.0, omega (arith, was.1), kept was.0 was.1 ∙ was.2)
    ]

    back : (j : ℕ) → (i : ℕ) × (i < n + 1) × (get_or (nodes ++ k ∷ []) i 0 ≡ j)
        → IsTrue (is_marked (set marks k true) j)
    back j (i, l, e) = elim (cases_eq j k) [
      | inl same ↦ ap (is_marked (set marks k true)) same ∙ here
      | inr other ↦ elim (cases_lt i n) [
        | inl past ↦ get_or-set_other marks k j true false other
            ∙ (old.marked j).1 (i, past, sym (kept i past) ∙ e)
        | inr now ↦
            let same : i ≡ n = omega arith in
            absurd (other (sym e ∙ ap (λ i. get_or (nodes ++ k ∷ []) i 0) same ∙ last))
      ]
    ]

  pub ReadyOnce-step : (m : List Instance) → IsReady m x → ¬ IsTrue (is_marked marks k)
      → ReadyOnce m ids n → ReadyOnce m ids (n + 1)
  ReadyOnce-step m ready unmarked sound i y l there = elim (cases_lt i n) [
    | inl past ↦ sound i y past there
    | inr now ↦
        let same : i ≡ n = omega arith in
        let one : Some x ≡ Some y = sym at ∙ ap (slice_get ids) (sym same) ∙ there in
        let is_x : x ≡ y = cc one in (
          subst (IsReady m) is_x ready,
          λ j before earlier.
              unmarked (is_marked-from_earlier j (omega (arith, before)) (earlier ∙ sym one)),
        )
  ]
